-- Sound so far: said of a tree's sights, and as document 01's sentences say it.
use Rattle.std.specs.Prelude.{◌≡◌, ◌⊎◌, true, length, drop, take}
use Rattle.std.proofs.Math.Path.{refl}
use Rattle.std.proofs.Common.{ap, inl, inr, arith, length-take, drop-cons}
use mathlib.Core.List.{List, [], ◌∷◌, map}
use Prim.Native.Nat.{ℕ, suc, ◌+◌, ◌≤◌, zero}
use Rattle.std.proofs.lemmas.List.{length-map}
use Rattle.lines.specs.Entries.{Entry}
use Rattle.values.specs.Values.{among}
use Rattle.runs.specs.Programs.{Transformation}
use Rattle.runs.specs.Reading.{Room, no_entry, whole_room}
use Rattle.programs.specs.SoundPrograms.{◌∈◌, entry, Way, ways, prefix, counted, SoundTo, SoundWay}
use Rattle.programs.specs.Theorems.Ways.{Keeps, All, all_of, of_all}
use Rattle.programs.specs.Theorems.Sights.{sights_prefix, sights_ways, Sight, sights, To, to_past}

module _ (entries : List Entry) (d : ℕ) (room : Room) where
  pub to_less : (m n : ℕ) (ss : List Sight) (p : ℕ) → m ≤ n → To entries n d room ss p → To entries m d room ss p
  to_less m n [] p h a = tt
  to_less m n (s ∷ ss) p h a = (λ l. a.0 (omega arith), to_less m n ss (suc p) h a.1)

  onward : (m q : ℕ) (ss : List Sight) → To entries (q + suc m) d room ss (suc q) → To entries (suc q + m) d room ss (suc q)
  onward m q ss a = to_less (suc q + m) (q + suc m) ss (suc q) (omega arith) a

  to_lines : (m : ℕ) (ss : List Sight) (q : ℕ) → To entries (q + m) d room ss q → m ≤ length ss → q + m ≤ length entries
      → take m (map (λ s. s.0) ss) ≡ take m (counted q (drop q entries))
  unfolding counted
  to_lines zero ss q a h l = refl
  to_lines (suc m) [] q a h l = absurd (omega arith)
  to_lines (suc m) (s ∷ ss) q a h l =
      rw (drop-cons entries q no_entry (omega arith), (a.0 (omega arith)).0, to_lines m ss (suc q) (onward m q ss a.1) (omega arith) (omega arith))

  to_ways : (m : ℕ) (ss : List Sight) (q : ℕ) → To entries (q + m) d room ss q → All (Keeps d room) (take m (map (λ s. s.1) ss))
  to_ways zero ss q a = tt
  to_ways (suc m) [] q a = tt
  to_ways (suc m) (s ∷ ss) q a = ((a.0 (omega arith)).1, to_ways m ss (suc q) (onward m q ss a.1))

  lines_to : (m : ℕ) (ss : List Sight) (q : ℕ) → q + m ≤ length entries → take m (map (λ s. s.0) ss) ≡ take m (counted q (drop q entries))
      → All (Keeps d room) (take m (map (λ s. s.1) ss)) → To entries (q + m) d room ss q
  unfolding counted
  lines_to zero ss q l h a = to_past entries (q + 0) d room ss q (omega arith)
  lines_to (suc m) [] q l h a = tt
  lines_to (suc m) (s ∷ ss) q l h a =
      let g = rw (drop-cons entries q no_entry (omega arith)) at h in
      (λ _. (cc, a.0), to_less (q + suc m) (suc q + m) ss (suc q) (omega arith) (lines_to m ss (suc q) (omega arith) (cc) a.1))

pub length_counted : (p : ℕ) (es : List Entry) → length (counted p es) ≡ length es
unfolding counted
length_counted p [] = refl
length_counted p (e ∷ es) = ap suc (length_counted (suc p) es)

-- the whole room has document 01's numbers
pub way_keeps : (w : Way) → SoundWay w → Keeps 0 whole_room w
way_keeps w s = record { level = omega arith; eaches = s.eaches; binds = s.binds; bound = λ u k e. inr (s.bound u k e) }

keeps_way : (w : Way) → Keeps 0 whole_room w → SoundWay w
unfolding among
keeps_way w h = record { level = let l = h.level in omega arith; eaches = h.eaches; binds = h.binds; bound = λ u k e. inside u k (h.bound u k e) }
  where
    inside : (u : Way) (k : ℕ) → (among k [] ≡ true) ⊎ (entry 0x0C (k ∷ []) ∈ u) → entry 0x0C (k ∷ []) ∈ u
    inside u k (inl a) = let z : ◌≡◌ {A = ℕ} 0 1 = cc in absurd (omega arith)
    inside u k (inr m) = m

module _ (entries : List Entry) (X : Transformation) where
  abbrev Whole : ℕ → Type 0
  Whole n = To entries (0 + n) 0 whole_room (sights X) 0

  pub sound_to : (n : ℕ) → SoundTo n entries X → Whole n
  sound_to n s = lines_to entries 0 whole_room n (sights X) 0 (let l = s.present in omega arith) (rw (sights_prefix X) s.lines)
      (rw (sights_ways X) (all_of (Keeps 0 whole_room) (take n (ways X)) (λ w m. way_keeps w (s.sound w m))))

  pub to_sound : (n : ℕ) → n ≤ length (sights X) → n ≤ length entries → Whole n → SoundTo n entries X
  to_sound n h l a = record {
    present = l;
    lines = rw (← (sights_prefix X)) (to_lines entries 0 whole_room n (sights X) 0 a h (omega arith));
    sound = λ w m. keeps_way w (of_all (Keeps 0 whole_room) (take n (ways X)) (rw (sights_ways X) at (to_ways entries 0 whole_room n (sights X) 0 a)) w m);
  }

  pub sound_long : (n : ℕ) → SoundTo n entries X → n ≤ length (sights X)
  sound_long n s =
      let a = ap length s.lines in
      let b = length-take n (prefix X) in
      let c = length-take n (counted 0 entries) in
      let e = length_counted 0 entries in
      let f = length-map (sights X) (λ s. s.0) in
      let g = ap length (sights_prefix X) in
      let l = s.present in
      omega arith

  pub sound_less : (m n : ℕ) → m ≤ n → SoundTo n entries X → SoundTo m entries X
  sound_less m n h s =
      let l = sound_long n s in
      let k = s.present in
      to_sound m (omega arith) (omega arith) (to_less entries 0 whole_room (0 + m) (0 + n) (sights X) 0 (omega arith) (sound_to n s))
