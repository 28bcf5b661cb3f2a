-- What the code of a run knows at its entry, and what the operations with nothing below show.
use mathlib.Core.Path.{◌≡◌, refl, sym, ◌∙◌, ap}
use mathlib.Core.List.{List, [], ◌∷◌}
use mathlib.Core.Logic.{◌⊎◌, inl, inr}
use Prim.Native.Nat.{ℕ, ◌+◌, ◌-◌, ◌/◌, ◌%◌, ◌≤◌, ◌<◌}
use native.Mathlib.Omega.{arith}
use native.Mathlib.Decide.{dec_lt}
use lib.ListN.{get_or}
use borrow.Author.Tests.{le-ltb}
use Rattle.std.specs.Prelude.{Ok}
use Rattle.lines.specs.Nodes.{Line}
use Rattle.lines.specs.Entries.{Entry, slot_of, text_of}
use Rattle.values.specs.Values.{program}
use Rattle.values.specs.Engine.Words.{Made, origin_of, node_of, value_at}
use Rattle.values.proofs.Theorems.WordLaws.{value_none}
use Rattle.runs.specs.declared.slots.SlotWords.{SlotWords}
use Rattle.runs.specs.Results.{gives}
use Rattle.runs.specs.Programs.{contents, tagged, is_element}
use Rattle.runs.specs.Reading.{no_entry}
use Rattle.runs.specs.Showing.{value_in, show, test}
use Rattle.runs.specs.Engine.Runs.{Run, Tested, made_by, lookup_of, slots_at, value_only, yes_only, said_of, ShownBy, TestedBy}
use Rattle.runs.specs.Engine.Leaves.{Leaves}
use Rattle.runs.proofs.Trees.{at_source, at_nothing, at_text, at_tag, at_slot, at_contents, at_tagged, at_element}
use Rattle.runs.proofs.ShowRuns.{leaf}

-- ## At the entry

-- the operation that was read is the entry's
pub read : {e f : Entry} {r b : ℕ} → e ≡ f → r ≡ e.operation → r ≡ b → f.operation ≡ b
read e o q = ap (λ (x : Entry). x.operation) (sym e) ∙ sym o ∙ q

-- 03 and 04 share a function
pub text_or_tag : {o r : ℕ} → o ≡ r → 3 ≤ r → r < 5 → (o ≡ 3) ⊎ (o ≡ 4)
text_or_tag {o} {r} e h u = go (dec_lt r 4)
  where
    go : Dec (r < 4) → (o ≡ 3) ⊎ (o ≡ 4)
    go (yes l) = inl (omega arith)
    go (no l) = inr (omega arith)

-- ## The operations with nothing below

-- what an entry of the program makes
made_node : (b : Made) (entry : ℕ) → entry < 96 → node_of b (0x8000 + entry) ≡ record { depth = 0; origin = program entry (b.element entry) (b.bytes entry) }
unfolding node_of origin_of
made_node b entry h =
    let d : (0x8000 + entry) / 0x10000 ≡ 0 = omega arith in
    let o : (0x8000 + entry) % 0x10000 ≡ 0x8000 + entry = omega arith in
    let e : 0x8000 + entry - 0x8000 ≡ entry = omega arith in
    rw (d, o, le-ltb (0x8000 + entry) 0x8000 (omega arith), e)

module _ {entries : List Entry} {lines : List Line} {w : List ℕ} {slots : SlotWords} {entry start len top : ℕ} {w' : List ℕ} {r : Run} where
  pub shows_source : (get_or entries entry no_entry).operation ≡ 0x01
      → Leaves (made_by entries) w top w' r (gives (value_at (made_by entries) w start len)) → ShownBy entries lines w slots entry start len top w' r
  unfolding show
  shows_source o l = leaf l (λ X q st. rw (at_source entries X entry q st o))

  pub shows_slot : (get_or entries entry no_entry).operation ≡ 0x05 → {byte : ℕ} → byte ≡ slot_of (get_or entries entry no_entry)
      → Leaves (made_by entries) w top w' r (gives (value_in byte (slots_at (made_by entries) w slots))) → ShownBy entries lines w slots entry start len top w' r
  unfolding show
  shows_slot o e l = leaf l (λ X q st. rw (at_slot entries X entry q st o) (ap (λ (k : ℕ). gives (value_in k (slots_at (made_by entries) w slots))) e))

  pub shows_contents : (get_or entries entry no_entry).operation ≡ 0x06
      → Leaves (made_by entries) w top w' r (value_only (show (lookup_of lines) (contents entry) [] (value_at (made_by entries) w start len)))
      → ShownBy entries lines w slots entry start len top w' r
  unfolding show
  shows_contents o l = leaf l (λ X q st. rw (at_contents entries X entry q st o))

  pub shows_made : entry < 96 → ((get_or entries entry no_entry).operation ≡ 0x03) ⊎ ((get_or entries entry no_entry).operation ≡ 0x04)
      → Leaves (made_by entries) w top w' r (gives (node_of (made_by entries) (0x8000 + entry) ∷ [])) → ShownBy entries lines w slots entry start len top w' r
  unfolding show made_by
  shows_made h (inl o) l = leaf l (λ X q st. rw (made_node (made_by entries) entry h, at_text entries X entry q st o, o))
  shows_made h (inr o) l = leaf l (λ X q st. rw (made_node (made_by entries) entry h, at_tag entries X entry q st o, o))

pub shows_nothing : {entries : List Entry} {lines : List Line} {w : List ℕ} {slots : SlotWords} {entry start len top : ℕ} → (get_or entries entry no_entry).operation ≡ 0x02
    → ShownBy entries lines w slots entry start len top w (Ok (record { start = top; len = 0 }))
unfolding show
shows_nothing {entries} {lines} {w} {slots} {entry} {start} {len} {top} o =
    record { frame = refl; place = (refl, omega arith); meets = λ X q st. rw (at_nothing entries X entry q st o) (ap gives (value_none (made_by entries) w top)) }

module _ {entries : List Entry} {lines : List Line} {w : List ℕ} {slots : SlotWords} {entry start len top : ℕ} {r : Tested} where
  pub tests_tag : (get_or entries entry no_entry).operation ≡ 0x12
      → said_of r ≡ yes_only (test (lookup_of lines) (tagged entry (text_of (get_or entries entry no_entry))) [] (value_at (made_by entries) w start len))
      → TestedBy entries lines w slots entry start len top w r
  unfolding test
  tests_tag o e = record { frame = refl; meets = λ P q st. rw (at_tagged entries P entry q st o) e }

  pub tests_element : (get_or entries entry no_entry).operation ≡ 0x13
      → said_of r ≡ yes_only (test (lookup_of lines) (is_element entry) [] (value_at (made_by entries) w start len)) → TestedBy entries lines w slots entry start len top w r
  unfolding test
  tests_element o e = record { frame = refl; meets = λ P q st. rw (at_element entries P entry q st o) e }
