-- Reading goes by the one table of operations: as many sub-entries, and the same class, for every operation byte.
use Rattle.std.specs.Prelude.{◌≡◌, refl, Bool, true, false, List, [], ◌∷◌, ℕ, zero, suc, ◌+◌, ◌≤◌, ◌<◌, ltb, get_or, Option, None, Some, option_map, unwrap_or}
use Rattle.std.proofs.Common.{sym, ap, ◌∙◌, arith, le-leb, ltb-true, ltb-false}
use Rattle.std.proofs.Math.ListN.{get_or-map}
use Rattle.std.proofs.lemmas.Bool.{lt-leb}
use Rattle.lines.specs.declared.table.Class.{Class}
use Rattle.lines.specs.declared.table.Class.TheVariants.{Transformation, Test}
use Rattle.lines.specs.Entries.{Entry, class_of, rows, row_of, subs_of}
use Rattle.runs.specs.Reading.{Makes, leaf, one, two, choice, test_leaf, test_one, unknown, operations, makes}

-- how many sub-entries are read
unfoldable pub sub_entries : Makes → ℕ
sub_entries (leaf t) = 0
sub_entries (one f) = 1
sub_entries (two f) = 2
sub_entries (choice f) = 3
sub_entries (test_leaf t) = 0
sub_entries (test_one f) = 1
sub_entries unknown = 0

-- where it may stand
unfoldable pub class_made : Makes → Option Class
class_made (leaf t) = Some Transformation
class_made (one f) = Some Transformation
class_made (two f) = Some Transformation
class_made (choice f) = Some Transformation
class_made (test_leaf t) = Some Test
class_made (test_one f) = Some Test
class_made unknown = None

pub reads_sub_entries : (e : Entry) (p : ℕ) → sub_entries (makes e p) ≡ subs_of e.operation
unfolding makes operations sub_entries row_of rows
reads_sub_entries e p =
    sym (get_or-map (λ r. sub_entries (r p e)) operations e.operation (λ p e. unknown)) ∙ get_or-map (λ r. unwrap_or (option_map (λ x. x.subs) r) 0) rows e.operation _

-- ## Classes

-- the table ends with byte 13
abbrev row_count : ℕ
row_count = 0x14

up_from : ℕ → ℕ → List ℕ
up_from k zero = []
up_from k (suc n) = k ∷ up_from (suc k) n

at_up_from : (k n i d : ℕ) → i < n → get_or (up_from k n) i d ≡ k + i
unfolding up_from
at_up_from k zero i d h = absurd (omega arith)
at_up_from k (suc n) zero d h = omega arith
at_up_from k (suc n) (suc i) d h = at_up_from (suc k) n i d (omega arith) ∙ (let e : suc k + i ≡ k + suc i = omega arith in e)

past_up_from : (k n i d : ℕ) → n ≤ i → get_or (up_from k n) i d ≡ d
unfolding up_from
past_up_from k zero i d h = refl
past_up_from k (suc n) zero d h = absurd (omega arith)
past_up_from k (suc n) (suc i) d h = past_up_from (suc k) n i d (omega arith)

past_class : (b : ℕ) → row_count ≤ b → class_of b ≡ None
unfolding class_of
past_class b h = rw (le-leb 0x01 b (omega arith), lt-leb b 0x0C (omega arith), le-leb 0x11 b (omega arith), lt-leb b 0x13 (omega arith))

pub reads_class : (e : Entry) (p : ℕ) → class_made (makes e p) ≡ class_of e.operation
unfolding makes operations class_made up_from class_of
reads_class e p =
    sym (get_or-map (λ r. class_made (r p e)) operations e.operation (λ p e. unknown)) ∙ get_or-map class_of (up_from 0 row_count) e.operation row_count
    ∙ go (ltb e.operation row_count) refl
  where
    go : (b : Bool) → ltb e.operation row_count ≡ b → class_of (get_or (up_from 0 row_count) e.operation row_count) ≡ class_of e.operation
    go true h =
        let l = ltb-true e.operation row_count h in
        ap class_of (at_up_from 0 row_count e.operation row_count l ∙ (let z : 0 + e.operation ≡ e.operation = omega arith in z))
    go false h = let l = ltb-false e.operation row_count h in ap class_of (past_up_from 0 row_count e.operation row_count l) ∙ sym (past_class e.operation l)
