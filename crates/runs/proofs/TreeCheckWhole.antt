-- The whole program: its fault, or the end of every entry.
use mathlib.Core.Path.{◌≡◌, refl, sym, ◌∙◌}
use Rattle.std.specs.Prelude.{None}
use mathlib.Core.Bool.{false}
use mathlib.Core.List.{List}
use Prim.Native.Nat.{ℕ, ◌≤◌, ◌<◌}
use native.Mathlib.Omega.{arith}
use lib.ListN.{length, get_or, take}
use lib.Seq.{get_or-take, length-take-le}
use borrow.Author.Tests.{le-leb, lt-leb}
use Rattle.lines.specs.Entries.{Entry}
use Rattle.std.specs.Prelude.{Result as Checked, Ok, Err}
use Rattle.runs.specs.Results.{Result, gives, stops}
use Rattle.runs.specs.Programs.{Transformation, Test}
use Rattle.runs.specs.Reading.{Room, whole_room, most_levels, read_program, fault_of}
use Rattle.runs.specs.Engine.Checking.{answer_of, EndedAt, EndedFrom, CheckedFrom, CheckedWhole}
use Rattle.runs.specs.Engine.Ends.{end_at}
use Rattle.runs.specs.Theorems.ByTable.{fault_by_table}
use Rattle.runs.specs.Engine.Trees.{Stands, StandsTest}
use Rattle.runs.specs.Theorems.WholePrograms.{program_placed}
use Rattle.runs.specs.Theorems.OneEnd.{OneEnd, one_end_of, one_test_end}

read_some : {A : Type 0} (r : Result ℕ A) → None ≡ fault_of r → (a : A) × (r ≡ gives a)
unfolding fault_of
read_some (gives a) e = (a, refl)
read_some (stops p) e = let z : ◌≡◌ {A = ℕ} 0 1 = cc in absurd (omega arith)

module _ {E : List Entry} {ends ends' : List ℕ} {r : Checked ℕ ℕ} (room : Room) (whole : room ≡ whole_room)
    (d : CheckedFrom E ends ends' 0 (end_at E most_levels room false 0) r) where
  answered : (s : Checked ℕ ℕ) → r ≡ s → end_at E most_levels whole_room false 0 ≡ answer_of s
  answered s e = rw (← whole, ← e) (sym d.answer)

  pub whole_fault : {p : ℕ} → r ≡ Err p → CheckedWhole E ends' (Err p)
  unfolding fault_of
  whole_fault {p} e = record { verdict = sym (fault_by_table E ∙ rw (answered (Err p) e)); ended = tt }

  -- the first line left over
  pub whole_left : {q : ℕ} → r ≡ Ok q → q < length E → CheckedWhole E ends' (Err q)
  unfolding fault_of
  whole_left {q} e h = record { verdict = sym (fault_by_table E ∙ rw (answered (Ok q) e, lt-leb (length E) q h)); ended = tt }

  pub whole_ended : {q : ℕ} → r ≡ Ok q → length E ≤ q → length E ≤ length ends → CheckedWhole E ends' (Ok q)
  unfolding fault_of
  whole_ended {q} e h l = record { verdict = fine; ended = (last, record { long = length-take-le q ends' fits ∙ last; tree = tree; test = test }) }
    where
      fine : None ≡ fault_of (read_program E)
      fine = sym (fault_by_table E ∙ rw (answered (Ok q) e, le-leb (length E) q h))

      -- the tree that is read ends behind the last line
      last : q ≡ length E
      last =
          let x = read_some (read_program E) fine in
          sym ((one_end_of E x.0 0 (length E) (program_placed E x.0 x.1).stands).only most_levels whole_room false q (answered (Ok q) e))

      fits : q ≤ length ends'
      fits = omega (arith, d.long, last)

      there : (p s : ℕ) → OneEnd E p s → (EndedAt E ends' p → get_or ends' p 0 ≡ s) → get_or (take q ends') p 0 ≡ s
      there p s o f =
          let i : p < q = omega (arith, o.inside, last) in
          let all : EndedFrom E ends' 0 q = rw e at d.ended in
          get_or-take q ends' p 0 i ∙ f (all.each p (omega arith) i)

      tree : (X : Transformation) (p s : ℕ) → Stands E X p s → get_or (take q ends') p 0 ≡ s
      tree X p s x = there p s (one_end_of E X p s x) (λ a. a.tree X s x)

      test : (P : Test) (p s : ℕ) → StandsTest E P p s → get_or (take q ends') p 0 ≡ s
      test P p s x = there p s (one_test_end E P p s x) (λ a. a.test P s x)
