-- A refusal's place: the master's rule names one of its lines. And a scan whose fault is a refusal.
use mathlib.Core.Path.{◌≡◌, refl, ap, subst, ◌∙◌}
use mathlib.Core.Bool.{Bool, true, false}
use mathlib.Core.List.{List}
use Prim.Native.Nat.{ℕ}
use native.Mathlib.Nat.{zero-add}
use lib.ListN.{length}
use Rattle.lines.specs.Nodes.{Line, is_marked}
use Rattle.lines.specs.Verdicts.{first_from}
use Rattle.lines.specs.Masters.{master_bounds, unmarked}
use Rattle.lines.proofs.Theorems.Places.{Below, first_below, earlier_below, master_bounds_below}
use Rattle.std.specs.Prelude.{Result as Answer, Ok, Err, IsErrAnd}
use Rattle.std.specs.Result.{MatchResult}
use Rattle.std.proofs.lemmas.Result.{err_from_is_err_and}
use Rattle.calls.specs.declared.refusal.Refusal.{Refusal}
use Rattle.calls.specs.Judging.{master_rule}

pub master_below : (putting : Bool) (ls : List Line) → Below (length ls) (master_rule putting ls)
unfolding master_rule unmarked
master_below false ls = master_bounds_below ls
master_below true ls =
    earlier_below (length ls) (master_bounds ls) (first_from is_marked 0 ls) (master_bounds_below ls)
    (subst (λ (n : ℕ). Below n (first_from is_marked 0 ls)) (zero-add (length ls)) (first_below is_marked 0 ls))

-- where a refusal is passed on
pub passed : {A : Type 0} {answer : Answer A Refusal} {r : Refusal} → IsErrAnd answer (λ e. e ≡ r) → answer ≡ Err r
passed {A} {answer} {r} h = let p = err_from_is_err_and answer h in p.1 ∙ ap Err p.2

-- a scan, and the answer in which its fault is a refusal
module _ {scanned : Answer ℕ ℕ} {answer : Answer ℕ Refusal} (made : ℕ → Refusal → Type 0)
    (cases : MatchResult scanned (λ n. answer ≡ Ok n) (λ line. IsErrAnd answer (made line))) where
  pub scan_went : (n : ℕ) → answer ≡ Ok n → scanned ≡ Ok n
  scan_went n e = go scanned cases
    where
      go : (s : Answer ℕ ℕ) → MatchResult s (λ m. answer ≡ Ok m) (λ line. IsErrAnd answer (made line)) → s ≡ Ok n
      go (Ok m) h = cc
      go (Err line) h = let p = err_from_is_err_and answer h in cc

  pub scan_failed : (r : Refusal) → answer ≡ Err r → (line : ℕ) × (scanned ≡ Err line) × made line r
  scan_failed r e = go scanned cases
    where
      go : (s : Answer ℕ ℕ) → MatchResult s (λ m. answer ≡ Ok m) (λ line. IsErrAnd answer (made line)) → (line : ℕ) × (s ≡ Err line) × made line r
      go (Ok m) h = cc
      go (Err line) h = let p = err_from_is_err_and answer h in let q : p.0 ≡ r = cc in (line, refl, subst (made line) q p.2)
