-- The lines that a sound program shows of a sound master can be written, and are at most 128.
use Rattle.std.specs.Prelude.{◌≡◌, refl, Bool, true, false, cond, ◌&&◌, ℕ, zero, suc, ◌+◌, ◌≤◌, ◌<◌, leb, ltb, eqb, length, get_or, drop, None, Ok, Err}
use Rattle.std.proofs.Common.{subst, arith, length-drop, leb-true, eqb-true}
use mathlib.Core.List.{List, [], ◌∷◌, map}
use Rattle.std.proofs.lemmas.List.{length-map}
use Rattle.lines.specs.declared.scan.File.TheVariants.{Program}
use Rattle.lines.specs.Hex.{decode}
use Rattle.lines.specs.Lines.{cut, is_line}
use Rattle.lines.specs.Nodes.{Line, untouched_mark, is_tag, kind_rule}
use Rattle.lines.specs.Entries.{Entry, rows, row_of, operand_shape, text_form, operand_form, entry_form, entry_line, entry_of, entries, text_of}
use Rattle.lines.specs.Files.{form_of, limit_of, scan_from, scan}
use Rattle.lines.specs.Masters.{master_bounds}
use Rattle.lines.specs.Writing.{file_of}
use Rattle.lines.specs.Theorems.Bools.{and_left, and_right}
use Rattle.lines.proofs.Theorems.Pairs.{decode_bytes}
use Rattle.lines.proofs.Theorems.Widths.{file_short}
use Rattle.lines.specs.Theorems.KindRules.{text_rule, tag_rule}
use Rattle.lines.specs.Theorems.LineRules.{Short, Fields, rule_made, fields_writable, writable_fields, no_line_fields}
use Rattle.lines.specs.Engine.Writes.{Bytes, Writable, AllWritable}
use Rattle.values.specs.Values.{Origin, Value}
use Rattle.values.specs.Values.{master as ofMaster, program as ofProgram}
use Rattle.values.specs.Theorems.Forests.{Shallow}
use Rattle.runs.specs.Results.{gives}
use Rattle.runs.specs.Programs.{Transformation}
use Rattle.runs.specs.Reading.{no_entry}
use Rattle.runs.specs.Showing.{Shown}
use Rattle.runs.specs.Grounds.{numbered_from, line_of, lookup_in, whole, one_master, showing, shown_line, view}
use Rattle.runs.proofs.Theorems.Bounds.{master_shows_good}
use Rattle.runs.specs.Theorems.WholePrograms.{program_placed}
use Rattle.calls.specs.Judging.{judged_program, judged_show}
use Rattle.calls.proofs.Theorems.Judged.{program_passed, master_passed, show_passed}
use Rattle.calls.specs.Theorems.Origins.{All, shows_all}

-- ## The entries of a program whose lines have the form

pub record EntryFormed (e : Entry) : Type 0 where
  pub form : operand_form (operand_shape e.operation) e.operand ≡ true
  pub bytes : Bytes e.operand

drop_bytes : (b : List ℕ) → Bytes b → Bytes (drop 1 b)
drop_bytes [] g = tt
drop_bytes (x ∷ b) g = g.1

line_formed : (c : List ℕ) → entry_line c ≡ true → EntryFormed (entry_of (decode c))
unfolding entry_line entry_form
line_formed c h = record { form = and_right (is_line c) _ h; bytes = drop_bytes (decode c) (decode_bytes c) }

-- behind the last line no entry has an operation
lines_formed : (limit k n : ℕ) (cs : List (List ℕ)) → scan_from entry_line limit k cs ≡ Ok n
    → (p b : ℕ) → (0 ≡ b → ⊥) → (get_or (map (λ c. entry_of (decode c)) cs) p no_entry).operation ≡ b → EntryFormed (get_or (map (λ c. entry_of (decode c)) cs) p no_entry)
unfolding scan_from
lines_formed limit k n [] h p b some o = absurd (some o)
lines_formed limit k n (c ∷ cs) h p b some o = go (ltb k limit) (entry_line c) refl h p o (λ q p o. lines_formed limit (suc k) n cs q p b some o)
  where
    go : (t u : Bool) → entry_line c ≡ u → cond (t && u) (scan_from entry_line limit (suc k) cs) (Err k) ≡ Ok n
        → (p : ℕ) → (get_or (entry_of (decode c) ∷ map (λ c. entry_of (decode c)) cs) p no_entry).operation ≡ b
        → (scan_from entry_line limit (suc k) cs ≡ Ok n → (p : ℕ) → (get_or (map (λ c. entry_of (decode c)) cs) p no_entry).operation ≡ b
        → EntryFormed (get_or (map (λ c. entry_of (decode c)) cs) p no_entry))
        → EntryFormed (get_or (entry_of (decode c) ∷ map (λ c. entry_of (decode c)) cs) p no_entry)
    go true true f q zero o ih = line_formed c f
    go true true f q (suc p) o ih = ih q p o
    go true false f q p o ih = absurd (let z : ◌≡◌ {A = ℕ} 0 1 = cc in omega arith)
    go false u f q p o ih = absurd (let z : ◌≡◌ {A = ℕ} 0 1 = cc in omega arith)

pub scanned_entry : (s : List ℕ) (n : ℕ) → scan Program s ≡ Ok n
    → (p b : ℕ) → (0 ≡ b → ⊥) → (get_or (entries s) p no_entry).operation ≡ b → EntryFormed (get_or (entries s) p no_entry)
unfolding scan form_of entries
scanned_entry s n e p b some o = lines_formed (limit_of Program) 0 n (cut s) e p b some o

-- 03: a text of at most 32 bytes; 04: a tag beside
text_short : (b : List ℕ) → Bytes b → text_form b ≡ true → Short (drop 1 b)
unfolding text_form
text_short b g e =
    let r = and_right (leb 1 (length b)) _ e in
    let x = leb-true (get_or b 0 0) 32 (and_left (leb (get_or b 0 0) 32) _ r) in
    let y = eqb-true (length b) (1 + get_or b 0 0) (and_right (leb (get_or b 0 0) 32) _ r) in
    record { few = omega (arith, length-drop 1 b); bytes = drop_bytes b g }

made_text : (e : Entry) → EntryFormed e → e.operation ≡ 0x03 → Short (text_of e)
unfolding row_of rows operand_form text_of
made_text e f o = text_short e.operand f.bytes (subst (λ (b : ℕ). operand_form (operand_shape b) e.operand ≡ true) o f.form)

made_tag : (e : Entry) → EntryFormed e → e.operation ≡ 0x04 → Short (text_of e) × (is_tag (text_of e) ≡ true)
unfolding row_of rows operand_form text_of
made_tag e f o =
    let h : (text_form e.operand && is_tag (drop 1 e.operand)) ≡ true = subst (λ (b : ℕ). operand_form (operand_shape b) e.operand ≡ true) o f.form in
    (text_short e.operand f.bytes (and_left (text_form e.operand) _ h), and_right (text_form e.operand) _ h)

-- ## A master's lines by their numbers

pub fields_of : (k : ℕ) (ls : List Line) → AllWritable ls → (n : ℕ) → Fields (line_of (numbered_from k ls) n)
unfolding numbered_from line_of
fields_of k [] g n = no_line_fields
fields_of k (l ∷ ls) g n = go (eqb n k) (fields_of (suc k) ls g.1 n)
  where
    go : (b : Bool) → Fields (line_of (numbered_from (suc k) ls) n) → Fields (cond b l (line_of (numbered_from (suc k) ls) n))
    go true r = writable_fields l g.0
    go false r = r

-- ## What is shown

-- a master's node by its number, or a node that the program makes, with the form of its line
abbrev pub Fits : ℕ → Origin → Type 0
Fits few (ofMaster n) = n < few
Fits few (ofProgram e element bytes) = Short bytes × (kind_rule (cond element 2 1) untouched_mark bytes ≡ true)

whole_fits : (few k : ℕ) (ls : List Line) → k + length ls ≤ few → All (Fits few) (whole (numbered_from k ls))
unfolding whole numbered_from
whole_fits few k [] h = tt
whole_fits few k (l ∷ ls) h = (omega arith, whole_fits few (suc k) ls (omega arith))

-- of any ground's lines that can be written
module _ (ls : List Line) (form : AllWritable ls) (few : length ls ≤ 128) where
  shown_writable : (d : ℕ) (x : Origin) → d ≤ 9 → Fits (length ls) x → Writable (shown_line (numbered_from 0 ls) d x)
  unfolding shown_line
  shown_writable d (ofMaster n) h f =
      let l = fields_of 0 ls form n in
      fields_writable _ (record { depth = omega arith; number = omega arith; rule = l.rule })
  shown_writable d (ofProgram e element bytes) h f =
      fields_writable _ (record { depth = omega arith; number = omega arith; rule = rule_made (cond element 2 1) untouched_mark bytes f.1 f.0 })

  view_writable : (v : Value) → Shallow v → All (Fits (length ls)) v → AllWritable (view (one_master ls) v)
  unfolding view
  view_writable [] s f = tt
  view_writable (x ∷ v) s f = (shown_writable x.depth x.origin s.0 f.0, view_writable v s.1 f.1)

-- every node shown is the master's or is made by the program
pub shown_fits : (program : List ℕ) (X : Transformation) → judged_program program ≡ gives X → (ls : List Line) (o : Shown) → showing (one_master ls) X ≡ gives o
    → All (Fits (length ls)) o.value
unfolding showing
shown_fits program X judged ls o shows =
    let p = program_passed program X judged in
    let E = entries program in
    let formed = scanned_entry program p.count p.scanned in
    shows_all (Fits (length ls)) (lookup_in (numbered_from 0 ls)) E
    (λ p o. (made_text (get_or E p no_entry) (formed p 0x03 (λ z. omega arith) o) o, text_rule (text_of (get_or E p no_entry))))
    (λ p o. let t = made_tag (get_or E p no_entry) (formed p 0x04 (λ z. omega arith) o) o in (t.0, tag_rule (text_of (get_or E p no_entry)) t.1))
    X 0 (length E) (program_placed E X p.read).stands [] (whole (numbered_from 0 ls)) tt (whole_fits (length ls) 0 ls (omega arith)) o shows

-- ## The theorems

pub fresh_writable : (program : List ℕ) (X : Transformation) → judged_program program ≡ gives X → (ls : List Line) → AllWritable ls → length ls ≤ 128 → master_bounds ls ≡ None
    → (o : Shown) → showing (one_master ls) X ≡ gives o → AllWritable (view (one_master ls) o.value)
fresh_writable program X judged ls form few bounds o shows =
    view_writable ls form few o.value (master_shows_good ls few bounds X o shows).low (shown_fits program X judged ls o shows)

pub fresh_few : (ls : List Line) → length ls ≤ 128 → master_bounds ls ≡ None → (X : Transformation) (o : Shown) → showing (one_master ls) X ≡ gives o → length o.value ≤ 128
fresh_few ls few bounds X o shows = (master_shows_good ls few bounds X o shows).few

pub length_view : (ls : List Line) (v : Value) → length (view (one_master ls) v) ≡ length v
unfolding view
length_view ls v = length-map v _

-- what is shown fits the output buffer
pub show_short : (master program : List ℕ) (vs : List Line) → judged_show master program ≡ gives vs → length (file_of vs) ≤ 9856
show_short master program vs h =
    let s = show_passed master program vs h in
    let m = master_passed false master s.ls s.master_judged in
    let few = fresh_few s.ls m.holds.few m.bounds s.tree s.shown s.shows in
    let form = fresh_writable program s.tree s.program_judged s.ls m.holds.form m.holds.few m.bounds s.shown s.shows in
    let fresh = view (one_master s.ls) s.shown.value in
    subst (λ (ls : List Line). length (file_of ls) ≤ 9856) s.lines (file_short fresh form (omega (arith, length_view s.ls s.shown.value)))
