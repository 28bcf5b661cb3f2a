-- "Sweeping twice equals sweeping once", and a master that carries no mark is returned as it is.
use Rattle.std.specs.Prelude.{◌≡◌, refl, Bool, false, List, [], ◌∷◌, ℕ, zero, suc, ◌+◌, ◌<◌, length, get_or, replicate, None}
use Rattle.std.proofs.Common.{sym, ap, ap₂, ◌∙◌, arith}
use Rattle.lines.specs.Nodes.{Line, untouched_mark, is_marked, line_at}
use Rattle.lines.specs.Masters.{master_bounds, unmarked}
use Rattle.lines.specs.Verdicts.{first_from}
use Rattle.lines.specs.Theorems.MasterRules.{bounds_at, unmarked_at}
use Rattle.sweeping.specs.Sweeping.{is_under, is_deleted, goes, behind, removed_under, removed, kept, anew, numbered_anew, swept, numbers_from, new_numbers}

-- ## Without a mark nothing goes

none_walked : (ls : List Line) → ((i : ℕ) → (line_at ls i).mark ≡ untouched_mark) → removed_under None ls ≡ replicate (length ls) false
unfolding removed_under goes behind is_under is_deleted
none_walked [] h = refl
none_walked (l ∷ ls) h = rw (h 0) (ap (λ (gs : List Bool). false ∷ gs) (none_walked ls (λ i. h (suc i))))

none_removed : (ls : List Line) → unmarked ls ≡ None → removed ls ≡ replicate (length ls) false
unfolding removed
none_removed ls h = none_walked ls (unmarked_at ls h)

all_kept : (ls : List Line) → kept (replicate (length ls) false) ls ≡ ls
unfolding kept
all_kept [] = refl
all_kept (l ∷ ls) = ap (λ (r : List Line). l ∷ r) (all_kept ls)

unmarked_swept : (ls : List Line) → unmarked ls ≡ None → swept ls ≡ numbered_anew 0 ls
unfolding swept
unmarked_swept ls h = rw (none_removed ls h, all_kept ls)

-- ## Twice

anew_unmarked : (j k : ℕ) (ls : List Line) → first_from is_marked j (numbered_anew k ls) ≡ None
unfolding first_from is_marked numbered_anew anew
anew_unmarked j k [] = refl
anew_unmarked j k (l ∷ ls) = anew_unmarked (suc j) (suc k) ls

pub swept_unmarked : (ls : List Line) → unmarked (swept ls) ≡ None
unfolding unmarked swept
swept_unmarked ls = anew_unmarked 0 0 (kept (removed ls) ls)

anew_again : (k : ℕ) (ls : List Line) → numbered_anew k (numbered_anew k ls) ≡ numbered_anew k ls
unfolding numbered_anew anew
anew_again k [] = refl
anew_again k (l ∷ ls) = ap (λ (r : List Line). anew k l ∷ r) (anew_again (suc k) ls)

pub sweep_twice : (ls : List Line) → swept (swept ls) ≡ swept ls
unfolding swept
sweep_twice ls = unmarked_swept (swept ls) (swept_unmarked ls) ∙ anew_again 0 (kept (removed ls) ls)

numbers_all : (k n i : ℕ) → i < n → get_or (numbers_from k (replicate n false)) i 0 ≡ k + i
unfolding numbers_from
numbers_all k zero i b = absurd (omega arith)
numbers_all k (suc n) zero b = omega arith
numbers_all k (suc n) (suc i) b = omega (arith, numbers_all (suc k) n i (omega arith))

-- the second time every line keeps its number
pub numbers_again : (ls : List Line) (i : ℕ) → i < length (swept ls) → get_or (new_numbers (swept ls)) i 0 ≡ i
unfolding new_numbers
numbers_again ls i b = rw (none_removed (swept ls) (swept_unmarked ls)) (omega (arith, numbers_all 0 (length (swept ls)) i b))

-- ## A master that carries no mark

anew_same : (k : ℕ) (ls : List Line) → ((i : ℕ) → (line_at ls i).mark ≡ untouched_mark) → ((i : ℕ) → i < length ls → (line_at ls i).number ≡ k + i) → numbered_anew k ls ≡ ls
unfolding numbered_anew anew
anew_same k [] plain f = refl
anew_same k (l ∷ ls) plain f =
    let n : l.number ≡ k = omega (arith, f 0 (omega arith)) in
    ap₂ (λ (m : Line) (ms : List Line). m ∷ ms) (λ i. record { depth = l.depth; kind = l.kind; mark = sym (plain 0) i; number = sym n i; text = l.text })
    (anew_same (suc k) ls (λ i. plain (suc i)) (λ i b. omega (arith, f (suc i) (omega arith))))

pub unmarked_same : (ls : List Line) → master_bounds ls ≡ None → unmarked ls ≡ None → swept ls ≡ ls
unfolding master_bounds
unmarked_same ls b h = unmarked_swept ls h ∙ anew_same 0 ls (unmarked_at ls h) (λ i q. (bounds_at 0 0 ls b i q).1)
