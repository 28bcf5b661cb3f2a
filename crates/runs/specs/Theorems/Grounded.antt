-- Grounds whose numbers are covered and rising; their lines as handed back; the first clash.
use Rattle.std.specs.Prelude.{◌≡◌, Bool, ◌||◌, ℕ, suc, ◌<◌, ◌≤◌, None, Some}
use Rattle.std.proofs.Math.Path.{refl, ap}
use Rattle.std.proofs.Common.{sym, ◌∙◌, arith, eqb-true, ne_eqb}
use Rattle.std.proofs.Math.Bool.{true, false, cond}
use mathlib.Core.List.{List, [], ◌∷◌}
use Rattle.std.proofs.Math.Dec.{eqb}
use Rattle.lines.specs.Nodes.{no_line}
use Rattle.values.specs.Values.{Value}
use Rattle.values.specs.Standings.{Standing, untouched, sort, is_clash, gathered, hands_back}
use Rattle.values.proofs.Theorems.MergeLaws.{unit_left}
use Rattle.values.specs.Theorems.Copies.{is_copy}
use Rattle.values.proofs.Theorems.Copies.{gathered_silent}
use Rattle.values.proofs.Theorems.Edits.{hands_back_head}
use Rattle.runs.specs.Showing.{Slots}
use Rattle.runs.specs.PuttingBack.{SlotStandings, first_slot, rest_slots, gathered_slots}
use Rattle.runs.specs.Grounds.{Numbered, line_of, whole, Ground, first_clash, handed_back}

-- ## Numbers

unfoldable pub has_line : ℕ → List Numbered → Bool
has_line n [] = false
has_line n (a ∷ ls) = eqb n a.number || has_line n ls

-- no node comes from n
abbrev pub Absent : ℕ → Value → Type 0
Absent n v = (i : ℕ) → is_copy n v i ≡ false

abbrev pub AbsentFromSlots : ℕ → Slots → Type 0
AbsentFromSlots n [] = Unit {0}
AbsentFromSlots n (b ∷ slots) = Absent n b.value × AbsentFromSlots n slots

-- every number that occurs has a line
abbrev pub Covered : Ground → Type 0
Covered G = (n : ℕ) → has_line n G.lines ≡ false → Absent n G.given × AbsentFromSlots n G.outer

-- the numbers rise, from k on
abbrev pub Rising : ℕ → List Numbered → Type 0
Rising k [] = Unit {0}
Rising k (a ∷ ls) = (k ≤ a.number) × Rising (suc a.number) ls

pub absent_gathered : (n : ℕ) (v : Value) (ss : List Standing) → Absent n v → gathered n v ss ≡ untouched
absent_gathered n v ss h = gathered_silent n v ss (λ i p. let q = h i in cc)

pub absent_slots : (n : ℕ) (slots : Slots) (us : SlotStandings) → AbsentFromSlots n slots → gathered_slots n slots us ≡ untouched
unfolding gathered_slots
absent_slots n [] us h = refl
absent_slots n (b ∷ slots) us h = rw (absent_gathered n b.value (first_slot us) h.0, absent_slots n slots (rest_slots us) h.1) (unit_left untouched)

-- ## Lines handed back

pub line_of_handed_back : (s : ℕ → Standing) (ls : List Numbered) (n : ℕ) → (has_line n ls ≡ false → s n ≡ untouched)
    → line_of (handed_back s ls) n ≡ hands_back (line_of ls n) (s n)
unfolding line_of handed_back has_line hands_back
line_of_handed_back s [] n h = ap (hands_back no_line) (sym (h refl))
line_of_handed_back s (a ∷ ls) n h = go (λ k. line_of_handed_back s ls n k) (eqb n a.number) refl
  where
    go : ((has_line n ls ≡ false → s n ≡ untouched) → line_of (handed_back s ls) n ≡ hands_back (line_of ls n) (s n))
        → (b : Bool) → eqb n a.number ≡ b
        → cond b (hands_back a.line (s a.number)) (line_of (handed_back s ls) n) ≡ hands_back (cond b a.line (line_of ls n)) (s n)
    go ih true e = ap (λ (m : ℕ). hands_back a.line (s m)) (sym (eqb-true n a.number e))
    go ih false e = ih (λ p. h (rw (e, p)))

-- the source is the same: depths and numbers stay
pub whole_handed_back : (s : ℕ → Standing) (ls : List Numbered) → whole (handed_back s ls) ≡ whole ls
unfolding whole handed_back
whole_handed_back s [] = refl
whole_handed_back s (a ∷ ls) = rw ((hands_back_head a.line (s a.number)).0, whole_handed_back s ls)

-- ## The first clash

module _ (s : ℕ → Standing) where
  pub fine_no_clash : (ls : List Numbered) → first_clash s ls ≡ None → (n : ℕ) → (has_line n ls ≡ false → s n ≡ untouched) → is_clash (s n) ≡ false
  unfolding first_clash has_line is_clash sort
  fine_no_clash [] h n u = ap is_clash (u refl)
  fine_no_clash (a ∷ ls) h n u = go (λ q k. fine_no_clash ls q n k) (eqb n a.number) refl (is_clash (s a.number)) refl h
    where
      go : (first_clash s ls ≡ None → (has_line n ls ≡ false → s n ≡ untouched) → is_clash (s n) ≡ false)
          → (b : Bool) → eqb n a.number ≡ b → (c : Bool) → is_clash (s a.number) ≡ c → cond c (Some a.number) (first_clash s ls) ≡ None
          → is_clash (s n) ≡ false
      go ih b e true c q = cc
      go ih true e false c q = ap (λ (m : ℕ). is_clash (s m)) (eqb-true n a.number e) ∙ c
      go ih false e false c q = ih q (λ p. u (rw (e, p)))

  pub no_clash_fine : (ls : List Numbered) → ((n : ℕ) → is_clash (s n) ≡ false) → first_clash s ls ≡ None
  unfolding first_clash
  no_clash_fine [] h = refl
  no_clash_fine (a ∷ ls) h = rw (h a.number) (no_clash_fine ls h)

  absent_below : (k : ℕ) (ls : List Numbered) → Rising k ls → (m : ℕ) → m < k → has_line m ls ≡ false
  unfolding has_line
  absent_below k [] r m h = refl
  absent_below k (a ∷ ls) r m h = let p = r.0 in rw (ne_eqb m a.number (λ e. omega arith)) (absent_below (suc a.number) ls r.1 m (omega arith))

  -- it is the least
  abbrev pub Least : List Numbered → ℕ → Type 0
  Least ls n = (is_clash (s n) ≡ true) × ((m : ℕ) → m < n → (has_line m ls ≡ false → s m ≡ untouched) → is_clash (s m) ≡ false)

  pub fault_least : (k : ℕ) (ls : List Numbered) → Rising k ls → (n : ℕ) → first_clash s ls ≡ Some n → Least ls n
  unfolding first_clash has_line is_clash sort
  fault_least k [] r n h = (cc, λ m l u. cc)
  fault_least k (a ∷ ls) r n h = go (λ q. fault_least (suc a.number) ls r.1 n q) (is_clash (s a.number)) refl h
    where
      here : is_clash (s a.number) ≡ false → (m : ℕ) (b : Bool) → eqb m a.number ≡ b → ((has_line m ls ≡ false → s m ≡ untouched) → is_clash (s m) ≡ false)
          → (has_line m (a ∷ ls) ≡ false → s m ≡ untouched) → is_clash (s m) ≡ false
      here e m true q f u = ap (λ (x : ℕ). is_clash (s x)) (eqb-true m a.number q) ∙ e
      here e m false q f u = f (λ p. u (rw (q, p)))

      below : a.number ≡ n → (m : ℕ) → m < n → has_line m (a ∷ ls) ≡ false
      below e m l = rw (ne_eqb m a.number (λ q. omega arith)) (absent_below (suc a.number) ls r.1 m (omega arith))

      go : (first_clash s ls ≡ Some n → Least ls n) → (b : Bool) → is_clash (s a.number) ≡ b → cond b (Some a.number) (first_clash s ls) ≡ Some n
          → Least (a ∷ ls) n
      go ih true e q = let z : a.number ≡ n = cc in (ap (λ (x : ℕ). is_clash (s x)) (sym z) ∙ e, λ m l u. ap is_clash (u (below z m l)))
      go ih false e q = let i = ih q in (i.0, λ m l u. here e m (eqb m a.number) refl (i.1 m l) u)
