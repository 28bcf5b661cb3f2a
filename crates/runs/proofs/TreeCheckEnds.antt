-- The places behind the subtrees: what the check of each part leaves, from what the checks of its sub-parts left.
use mathlib.Core.Path.{◌≡◌, refl, sym, ◌∙◌}
use mathlib.Core.Bool.{Bool, true, false}
use mathlib.Core.List.{List}
use Prim.Native.Nat.{ℕ, ◌+◌, ◌≤◌, ◌<◌}
use native.Mathlib.Omega.{arith}
use lib.Dec.{ltb, eqb}
use lib.ListN.{length, get_or, set, length-set}
use lib.Seq.{get_or-set_same, get_or-set_other}
use borrow.Author.Tests.{ltb-true, ltb-false, eqb-true, eqb-false}
use Rattle.lines.specs.Entries.{Entry}
use Rattle.std.specs.Prelude.{Result as Checked, Ok, Err}
use Rattle.runs.specs.Results.{Result, gives, stops, ◌>>=◌}
use Rattle.runs.specs.Reading.{Room}
use Rattle.runs.specs.Engine.Checking.{EndedAt, EndedFrom, EndedUpTo, CheckedFrom}
use Rattle.runs.specs.Engine.Ends.{end_of, end_below, end_at}
use Rattle.runs.specs.Theorems.OneEnd.{one_end_of, one_test_end}

module _ {E : List Entry} where
  -- ends of other entries change nothing here
  ended_kept : (ends ends' : List ℕ) (p : ℕ) → get_or ends' p 0 ≡ get_or ends p 0 → EndedAt E ends p → EndedAt E ends' p
  ended_kept ends ends' p e d = record { tree = λ X q s. e ∙ d.tree X q s; test = λ P q s. e ∙ d.test P q s }

  pub fault_here : {ends : List ℕ} {entry p : ℕ} {wanted : Result ℕ ℕ} → wanted ≡ stops p → CheckedFrom E ends ends entry wanted (Err p)
  fault_here e = record { answer = sym e; long = refl; before = λ p h. refl; ended = tt }

  module _ {ends ends₁ : List ℕ} {entry : ℕ} {wanted : Result ℕ ℕ} {r : Checked ℕ ℕ} where
    wanted_alike : (wanted' : Result ℕ ℕ) → wanted' ≡ wanted → CheckedFrom E ends ends₁ entry wanted r → CheckedFrom E ends ends₁ entry wanted' r
    wanted_alike wanted' e d = rw e d

    fault_first : {p : ℕ} (f : ℕ → Result ℕ ℕ) → CheckedFrom E ends ends₁ entry wanted r → r ≡ Err p → CheckedFrom E ends ends₁ entry (wanted >>= f) (Err p)
    fault_first f d e = record { answer = rw (← d.answer, e); long = d.long; before = d.before; ended = tt }

    -- one part behind the other
    one_then : {q : ℕ} {ends₂ : List ℕ} {s : Checked ℕ ℕ} (f : ℕ → Result ℕ ℕ)
        → CheckedFrom E ends ends₁ entry wanted r → r ≡ Ok q → CheckedFrom E ends₁ ends₂ q (f q) s → CheckedFrom E ends ends₂ entry (wanted >>= f) s
    one_then {q} {ends₂} {s} f a e b =
        record {
          answer = b.answer ∙ rw (← a.answer, e);
          long = b.long ∙ a.long;
          before = λ p h. b.before p (omega (arith, first.forward)) ∙ a.before p h;
          ended = joined s b.ended;
        }
      where
        first : EndedFrom E ends₁ entry q
        first = rw e at a.ended

        each_of : (n p : ℕ) → EndedFrom E ends₂ q n → entry ≤ p → p < n → (t : Bool) → ltb p q ≡ t → EndedAt E ends₂ p
        each_of n p d h i true e = ended_kept ends₁ ends₂ p (b.before p (ltb-true p q e)) (first.each p h (ltb-true p q e))
        each_of n p d h i false e = d.each p (ltb-false p q e) i

        joined : (s : Checked ℕ ℕ) → EndedUpTo E ends₂ q s → EndedUpTo E ends₂ entry s
        joined (Ok n) d = record { forward = omega (arith, first.forward, d.forward); each = λ p h i. each_of n p d h i (ltb p q) refl }
        joined (Err p) d = tt

-- ## An entry above its sub-entries

module _ {E : List Entry} {ends ends₁ : List ℕ} {entry : ℕ} {wanted : Result ℕ ℕ} {r : Checked ℕ ℕ} (k : ℕ) (room : Room) (asked : Bool)
    (goes : end_at E k room asked entry ≡ wanted) (d : CheckedFrom E ends ends₁ (entry + 1) wanted r) where
  pub fault_below : {p : ℕ} → r ≡ Err p → CheckedFrom E ends ends₁ entry (end_at E k room asked entry) (Err p)
  fault_below e = record { answer = (rw e at d.answer) ∙ sym goes; long = d.long; before = λ p h. d.before p (omega arith); ended = tt }

  -- where reading ended is where every tree that stands there ends
  pub stored : {q : ℕ} → entry < length ends → r ≡ Ok q → CheckedFrom E ends (set ends₁ entry q) entry (end_at E k room asked entry) (Ok q)
  stored {q} h e =
      record {
        answer = answered;
        long = length-set ends₁ entry q ∙ d.long;
        before = λ p i. get_or-set_other ends₁ entry p q 0 (λ e. omega arith) ∙ d.before p (omega arith);
        ended = record { forward = omega (arith, rest.forward); each = λ p i j. each_of p i j (eqb p entry) refl };
      }
    where
      rest : EndedFrom E ends₁ (entry + 1) q
      rest = rw e at d.ended

      answered : gives q ≡ end_at E k room asked entry
      answered = (rw e at d.answer) ∙ sym goes

      there : get_or (set ends₁ entry q) entry 0 ≡ q
      there = get_or-set_same ends₁ entry q 0 (rw d.long h)

      each_of : (p : ℕ) → entry ≤ p → p < q → (t : Bool) → eqb p entry ≡ t → EndedAt E (set ends₁ entry q) p
      each_of p i j true e = rw (eqb-true p entry e) (record {
        tree = λ X s x. there ∙ sym ((one_end_of E X entry s x).only k room asked q (sym answered));
        test = λ P s x. there ∙ sym ((one_test_end E P entry s x).only k room asked q (sym answered));
      })
      each_of p i j false e =
          let n = eqb-false p entry e in
          ended_kept ends₁ (set ends₁ entry q) p (get_or-set_other ends₁ entry p q 0 n) (rest.each p (omega arith) j)

-- ## Sub-entries, by their number

bind_gives : (r : Result ℕ ℕ) → (r >>= λ q. gives q) ≡ r
bind_gives (gives q) = refl
bind_gives (stops p) = refl

abbrev trees : List Entry → ℕ → Room → ℕ → Result ℕ ℕ
trees E k room q = end_at E k room false q

abbrev tests : List Entry → ℕ → Room → ℕ → Result ℕ ℕ
tests E k room q = end_at E k room true q

module _ {E : List Entry} (k : ℕ) (room : Room) where
  pub none_below : {ends : List ℕ} {entry : ℕ} (n : ℕ) → n ≡ 0 → CheckedFrom E ends ends entry (end_below (trees E k room) (tests E k room) n entry) (Ok entry)
  unfolding end_below end_of
  none_below n e =
      record { answer = rw e; long = refl; before = λ p h. refl; ended = record { forward = omega arith; each = λ p a b. absurd (omega arith) } }

  module _ {ends ends₁ : List ℕ} {entry : ℕ} {r : Checked ℕ ℕ} where
    pub one_below : (n : ℕ) → n ≡ 1 → CheckedFrom E ends ends₁ entry (trees E k room entry) r
        → CheckedFrom E ends ends₁ entry (end_below (trees E k room) (tests E k room) n entry) r
    unfolding end_below end_of
    one_below n e d = wanted_alike _ (rw e (bind_gives (trees E k room entry))) d

    pub two_below : (n : ℕ) → n ≡ 2 → CheckedFrom E ends ends₁ entry (end_of (trees E k room) 2 entry) r
        → CheckedFrom E ends ends₁ entry (end_below (trees E k room) (tests E k room) n entry) r
    unfolding end_below
    two_below n e d = wanted_alike _ (rw e) d

    pub two_fault : {p : ℕ} → CheckedFrom E ends ends₁ entry (trees E k room entry) r → r ≡ Err p → CheckedFrom E ends ends₁ entry (end_of (trees E k room) 2 entry) (Err p)
    unfolding end_of
    two_fault d e = fault_first (λ q. end_of (trees E k room) 1 q) d e

    pub two_then : {q : ℕ} {ends₂ : List ℕ} {s : Checked ℕ ℕ}
        → CheckedFrom E ends ends₁ entry (trees E k room entry) r → r ≡ Ok q
        → CheckedFrom E ends₁ ends₂ q (trees E k room q) s → CheckedFrom E ends ends₂ entry (end_of (trees E k room) 2 entry) s
    unfolding end_of
    two_then {q} d e x = one_then (λ q. end_of (trees E k room) 1 q) d e (wanted_alike _ (bind_gives (trees E k room q)) x)

    pub choice_fault : {p : ℕ} → CheckedFrom E ends ends₁ entry (tests E k room entry) r → r ≡ Err p
        → CheckedFrom E ends ends₁ entry (end_below (trees E k room) (tests E k room) 3 entry) (Err p)
    unfolding end_below
    choice_fault d e = fault_first (λ q. end_of (trees E k room) 2 q) d e

    pub choice_then : {q : ℕ} {ends₂ : List ℕ} {s : Checked ℕ ℕ}
        → CheckedFrom E ends ends₁ entry (tests E k room entry) r → r ≡ Ok q → CheckedFrom E ends₁ ends₂ q (end_of (trees E k room) 2 q) s
        → CheckedFrom E ends ends₂ entry (end_below (trees E k room) (tests E k room) 3 entry) s
    unfolding end_below
    choice_then d e x = one_then (λ q. end_of (trees E k room) 2 q) d e x
