-- The table has a row for exactly the bytes that are an operation: one test, computed over the whole table.
use Rattle.std.specs.Prelude.{◌≡◌, refl, Bool, true, false, List, ℕ, ◌≤◌, ltb, Option, None, Some, option_map}
use Rattle.std.proofs.Common.{◌∙◌, ap, arith, ltb-true, ltb-false, le-leb}
use Rattle.std.specs.Bool.{beq}
use Rattle.std.specs.Option.{is_some}
use Rattle.std.proofs.Math.ListN.{get_or-eq_default}
use Rattle.std.proofs.lemmas.Bool.{lt-leb}
use Rattle.lines.specs.declared.table.Row.{Row}
use Rattle.lines.specs.Entries.{rows, row_of, operand_shape, class_of, operand_form}
use Rattle.lines.specs.Theorems.Lists.{every_at}

row_fits : ℕ → Option Row → Bool
row_fits b r = beq (is_some r) (is_some (class_of b))

beq_eq : (a b : Bool) → beq a b ≡ true → a ≡ b
beq_eq true true e = refl
beq_eq true false e = cc
beq_eq false true e = cc
beq_eq false false e = refl

pub table_rule : (b : ℕ) → is_some (row_of b) ≡ is_some (class_of b)
unfolding row_of class_of rows row_fits
table_rule b = go (ltb b 20) refl
  where
    go : (t : Bool) → ltb b 20 ≡ t → is_some (row_of b) ≡ is_some (class_of b)
    go true e = beq_eq _ _ (every_at row_fits rows None tt b (ltb-true b 20 e))
    go false e =
        let h : 20 ≤ b = ltb-false b 20 e in
        rw (get_or-eq_default rows None h, lt-leb b 0x0C (omega arith), le-leb 0x01 b (omega arith), lt-leb b 0x13 (omega arith), le-leb 0x11 b (omega arith))

-- a byte that is no operation asks for an operand that nothing has
pub unknown_operand : (b : ℕ) (operand : List ℕ) → class_of b ≡ None → operand_form (operand_shape b) operand ≡ false
unfolding operand_form
unknown_operand b operand e = go (row_of b) (table_rule b ∙ ap is_some e)
  where
    go : (r : Option Row) → is_some r ≡ false → operand_form (option_map (λ x. x.shape) r) operand ≡ false
    go None h = refl
    go (Some r) h = cc
