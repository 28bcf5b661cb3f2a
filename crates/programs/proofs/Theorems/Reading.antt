-- A program is read as the tree X exactly if it is the sound program X; it is refused by reply 3 exactly if there is no such tree.
use Rattle.std.specs.Prelude.{◌≡◌, refl, ◌⊎◌, ◌↔◌, Bool, true, false, cond, ◌&&◌, List, [], ◌∷◌, map, ℕ, suc, ◌+◌, leb, ltb, length, Ok, Err}
use Rattle.std.proofs.Common.{sym, ap, ◌∙◌, inl, inr, arith, take_all, leb-true}
use mathlib.Core.List.Memᴰ
use Rattle.std.proofs.lemmas.List.{length-map}
use Rattle.lines.specs.Entries.{Entry, operand_shape, operand_form, entry_form, entry_line, entry_of}
use Rattle.lines.specs.Entries.{entries as entriesIn}
use Rattle.lines.specs.Theorems.Bools.{and_right}
use Rattle.lines.specs.declared.scan.File.TheVariants.{Program}
use Rattle.lines.specs.Files.{scan, form_of, limit_of, scan_from}
use Rattle.lines.specs.Hex.{decode}
use Rattle.lines.specs.Lines.{cut, is_line}
use Rattle.runs.specs.Results.{gives, Result, stops}
use Rattle.runs.specs.Programs.{Transformation}
use Rattle.runs.specs.Reading.{most_levels, transformation_at, whole_room, read_in, read_program}
use Rattle.programs.specs.SoundPrograms.{◌∈◌, ways, prefix, counted, Formed, SoundTo, SoundProgram}
use Rattle.runs.specs.Theorems.Inversion.{gives_inj, on_ensure, no_gives, on_gives, on_bind}
use Rattle.runs.specs.Theorems.WholePrograms.{placed_program}
use Rattle.programs.specs.Theorems.Ways.{Keeps, all_of, ways_sound}
use Rattle.programs.specs.Theorems.Prefix.{written_stands}
use Rattle.programs.specs.Theorems.Sights.{sights_prefix, sights_ways, sights}
use Rattle.programs.specs.Theorems.Onward.{AheadOf, end_ahead, ends_so}
use Rattle.programs.specs.Theorems.Built.{Built, built}
use Rattle.programs.proofs.Theorems.SoFar.{length_counted, way_keeps, to_sound}

-- ## Both directions

module _ (entries : List Entry) (X : Transformation) where
  pub sound_program : SoundProgram entries X → read_program entries ≡ gives X
  sound_program s =
      let k = ways_sound X 0 whole_room (all_of (Keeps 0 whole_room) (ways X) (λ w m. way_keeps w (s.sound w m))) in
      placed_program entries X (record { stands = written_stands entries X s.lines; high = omega arith; sound = k.1 })

  -- as many entries as lines, and all of them so far sound
  all_sound : length (sights X) ≡ length entries → SoundTo (length entries) entries X → SoundProgram entries X
  all_sound h s =
      let n = length entries in
      let a = ap length (sights_prefix X) in
      let b = ap length (sights_ways X) in
      let c = length-map (sights X) (λ s. s.0) in
      let e = length-map (sights X) (λ s. s.1) in
      let f = length_counted 0 entries in
      record {
        lines = sym (take_all n (prefix X) (omega arith)) ∙ s.lines ∙ take_all n (counted 0 entries) (omega arith);
        sound = λ w m. s.sound w (rw (take_all n (ways X) (omega arith)) m);
      }

pub program_sound : (entries : List Entry) (X : Transformation) → Formed entries → read_program entries ≡ gives X → SoundProgram entries X
unfolding read_program read_in
program_sound entries X formed h =
    on_bind (transformation_at entries most_levels whole_room 0) _ X h λ x r h₁.
    on_ensure (leb (length entries) x.next) x.next (gives x.tree) X h₁ λ t g.
    let b : Built entries 0 whole_room 0 sights (gives x) = rw r at (built entries formed most_levels 0 whole_room 0 refl) in
    let a : AheadOf entries 0 (gives x.next) = rw (ends_so entries (gives x) r) at (end_ahead entries most_levels whole_room false 0) in
    let l = leb-true (length entries) x.next t in
    let m = a.1 (omega arith) in
    let n = b.1 in
    on_gives (SoundProgram entries) x.tree X g
    (all_sound entries x.tree (omega arith) (to_sound entries x.tree (length entries) (omega arith) (omega arith) (b.0 (0 + length entries))))

-- entries are one tree at most
pub one_tree : (entries : List Entry) (X Y : Transformation) → SoundProgram entries X → SoundProgram entries Y → X ≡ Y
one_tree entries X Y s t = gives_inj X Y (sym (sound_program entries X s) ∙ sound_program entries Y t)

-- ## Reply 3, wherever the first fault is

pub refused_unsound : (entries : List Entry) (p : ℕ) → read_program entries ≡ stops p → (X : Transformation) → SoundProgram entries X → ⊥
refused_unsound entries p h X s = no_gives p X (sym h ∙ sound_program entries X s)

pub unsound_refused : (entries : List Entry) → Formed entries → ((X : Transformation) → SoundProgram entries X → ⊥) → (p : ℕ) × (read_program entries ≡ stops p)
unsound_refused entries formed none = go (read_program entries) refl
  where
    go : (r : Result ℕ Transformation) → read_program entries ≡ r → (p : ℕ) × (r ≡ stops p)
    go (gives X) e = absurd (none X (program_sound entries X formed e))
    go (stops p) e = (p, refl)

-- ## Files that reply 2 lets pass

lines_formed : (limit k n : ℕ) (cs : List (List ℕ)) → scan_from entry_line limit k cs ≡ Ok n → Formed (map (λ c. entry_of (decode c)) cs)
unfolding scan_from entry_line entry_form
lines_formed limit k n [] h e m = absurd (Memᴰ.not-nil m)
lines_formed limit k n (c ∷ cs) h e m = go (ltb k limit) (entry_line c) refl h (Memᴰ.cases_cons m) (λ g j. lines_formed limit (suc k) n cs g e j)
  where
    go : (t u : Bool) → entry_line c ≡ u → cond (t && u) (scan_from entry_line limit (suc k) cs) (Err k) ≡ Ok n
        → (e ≡ entry_of (decode c)) ⊎ (e ∈ map (λ c. entry_of (decode c)) cs)
        → (scan_from entry_line limit (suc k) cs ≡ Ok n → e ∈ map (λ c. entry_of (decode c)) cs → operand_form (operand_shape e.operation) e.operand ≡ true)
        → operand_form (operand_shape e.operation) e.operand ≡ true
    go true true f g (inl q) rest = rw q (and_right (is_line c) _ f)
    go true true f g (inr j) rest = rest g j
    go true false f g j rest = absurd (let z : ◌≡◌ {A = ℕ} 0 1 = cc in omega arith)
    go false u f g j rest = absurd (let z : ◌≡◌ {A = ℕ} 0 1 = cc in omega arith)

pub scanned_formed : (s : List ℕ) (n : ℕ) → scan Program s ≡ Ok n → Formed (entriesIn s)
unfolding scan form_of entriesIn
scanned_formed s n e = lines_formed (limit_of Program) 0 n (cut s) e

pub file_sound : (s : List ℕ) (n : ℕ) → scan Program s ≡ Ok n → (X : Transformation) → (read_program (entriesIn s) ≡ gives X) ↔ SoundProgram (entriesIn s) X
file_sound s n e X = (program_sound (entriesIn s) X (scanned_formed s n e), sound_program (entriesIn s) X)
