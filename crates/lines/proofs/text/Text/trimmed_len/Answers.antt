-- Behind the first j bytes there are spaces alone.
use Rattle.std.proofs.Common.{◌≡◌, ◌∙◌, ap, sym, arith, ℕ, List, [], ◌∷◌, ◌++◌, ◌<◌, ◌≤◌, ◌+◌, ◌-◌, suc, length, get_or, take}
use Rattle.std.proofs.Math.Seq.{length-take-le, take-suc}
use Rattle.lines.specs.Texts.{space, trimmed}
use Rattle.lines.proofs.Theorems.TrimmedTexts.{spaces_behind, other_behind}
use Rattle.lines.proofs.text.Text.trimmed_len.Goals as goal

-- at a byte of the text, with spaces alone behind it
module _ (t : List ℕ) (n : ℕ) {x : ℕ} (s : 0 < n) (h : n ≤ length t) (e : x ≡ get_or t (n - 1) 0) (k : trimmed (take n t) ≡ trimmed t) where
  last : take n t ≡ take (n - 1) t ++ (x ∷ [])
  last = let z : n ≡ suc (n - 1) = omega arith in ap (λ (i : ℕ). take i t) z ∙ (take-suc t (n - 1) 0 (omega arith) ∙ ap (λ (y : ℕ). take (n - 1) t ++ (y ∷ [])) (sym e))

  -- it goes if it is a space,
  space_goes : x ≡ space → trimmed (take (n - 1) t) ≡ trimmed t
  space_goes p = sym (spaces_behind (take (n - 1) t) 1) ∙ (ap trimmed (sym (last ∙ ap (λ (y : ℕ). take (n - 1) t ++ (y ∷ [])) p)) ∙ k)

  -- and is the last one if it is not
  other_stays : (x ≡ space → ⊥) → n - 1 + 1 ≡ length (trimmed t)
  other_stays p =
      let long = length-take-le n t h in
      let same = ap length (last ∙ (sym (other_behind (take (n - 1) t) x p) ∙ (ap trimmed (sym last) ∙ k))) in
      omega arith

pub returns-then-byte-ne-SPACE : goal.returns-then-byte-ne-SPACE
returns-then-byte-ne-SPACE c = other_stays _ _ c.loop-j-test.true (omega arith) c.byte.ensures c.loop-j.invariant c.if-byte-ne-SPACE.true

pub loop-j-preserved : goal.loop-j-preserved
loop-j-preserved c = space_goes _ _ c.loop-j-test.true (omega arith) c.byte.ensures c.loop-j.invariant c.if-byte-ne-SPACE.false

pub returns : goal.returns
unfolding trimmed
returns c = let z : c.loop-j.j ≡ 0 = omega arith in ap length (rw z at c.loop-j.invariant)
