-- Where the loop over the lines stands: so many are written, and what is left of the swept lines is what stays of those to come.
use Rattle.std.specs.Prelude.{Option, None}
use mathlib.Core.Path.{◌≡◌, refl, ap, ◌∙◌}
use mathlib.Core.Bool.{true, false}
use mathlib.Core.List.{List, [], ◌∷◌}
use Prim.Native.Nat.{ℕ, ◌+◌, ◌≤◌, ◌<◌}
use native.Mathlib.Numerals.{add-one}
use native.Mathlib.Omega.{arith}
use lib.ListN.{length, get_or, drop, length-drop, drop_of_length-le}
use Rattle.lines.specs.Nodes.{Line, no_line}
use Rattle.lines.specs.Writing.{line_bytes}
use Rattle.lines.specs.Theorems.Lists.{drop_one}
use Rattle.lines.specs.Theorems.WritingLines.{Writing, Fitting, writing_starts, writing_room, writing_goes_on, writing_ends}
use Rattle.lines.specs.Engine.Writes.{headed, Written, WroteLines}
use Rattle.sweeping.specs.Sweeping.{goes, behind, removed_under, removed, kept, anew, numbered_anew, swept}
use Rattle.sweeping.specs.Engine.Parts.{SweepRoom}
use Rattle.sweeping.proofs.Lists.{drop_some}

-- a line without its mark, from the fields that were read
pub anew_headed : {d k : ℕ} (n : ℕ) (l : Line) {t : List ℕ} → d ≡ l.depth → k ≡ l.kind → t ≡ l.text
    → headed (record { depth = d; kind = k; mark = 0; number = n }) t ≡ anew n l
unfolding anew
anew_headed n l p q r = λ i. record { depth = p i; kind = q i; mark = 0; number = n; text = r i }

pub record Sweeping (ls : List Line) (out₀ out : List ℕ) (above : Option ℕ) (pos count i : ℕ) : Type 0 where
  pub writing : Writing (swept ls) out₀ out pos count
  pub left : drop count (swept ls) ≡ numbered_anew count (kept (removed_under above (drop i ls)) (drop i ls))
  pub within : count ≤ length (swept ls)
  pub few : count ≤ i

module _ {ls : List Line} {out₀ : List ℕ} (r : SweepRoom ls out₀) where
  fits : Fitting (swept ls) out₀ (length (swept ls))
  fits = record { all = refl; room = r.room }

  pub sweeping_starts : Sweeping ls out₀ out₀ None 0 0 0
  unfolding swept removed
  sweeping_starts = record { writing = writing_starts fits; left = refl; within = omega arith; few = omega arith }

  -- line i, where the loop stands
  module _ {out : List ℕ} {above : Option ℕ} {pos count i : ℕ} (p : Sweeping ls out₀ out above pos count i) where
    module _ (h : i < length ls) {l : Line} (here : l ≡ get_or ls i no_line) where
      next : drop i ls ≡ l ∷ drop (i + 1) ls
      next = rw here (drop_one ls i no_line h)

      rest : List Line
      rest = kept (removed_under (behind above l) (drop (i + 1) ls)) (drop (i + 1) ls)

      pub sweeping_gone : goes above l ≡ true → Sweeping ls out₀ out (behind above l) pos count (i + 1)
      unfolding kept removed_under
      sweeping_gone e =
          let b = p.few in
          record { writing = p.writing; left = p.left ∙ rw (next, e); within = p.within; few = omega arith }

      module _ (stays : goes above l ≡ false) where
        left_stays : drop count (swept ls) ≡ anew count l ∷ numbered_anew (count + 1) rest
        unfolding kept removed_under numbered_anew rest
        left_stays = p.left ∙ rw (next, stays, add-one count)

        some : (count < length (swept ls)) × (get_or (swept ls) count no_line ≡ anew count l) × (drop (count + 1) (swept ls) ≡ numbered_anew (count + 1) rest)
        some = drop_some (swept ls) count no_line _ _ left_stays

        pub sweeping_room : pos + length (line_bytes (anew count l)) ≤ length out
        sweeping_room = writing_room fits p.writing some.0 some.1

        pub sweeping_stays : {out' : List ℕ} {pos' : ℕ} → Written out out' pos (line_bytes (anew count l)) pos' → Sweeping ls out₀ out' (behind above l) pos' (count + 1) (i + 1)
        unfolding rest
        sweeping_stays {out'} {pos'} written =
            let b = p.few in
            let n = some.0 in
            record { writing = writing_goes_on fits p.writing some.0 some.1 written; left = some.2; within = omega arith; few = omega arith }

    pub sweeping_ends : length ls ≤ i → WroteLines (swept ls) out₀ out pos
    unfolding kept removed_under numbered_anew
    sweeping_ends h =
        let none : drop count (swept ls) ≡ [] = p.left ∙ rw (drop_of_length-le ls h) in
        writing_ends fits p.writing (omega (arith, ap length none, length-drop count (swept ls)))
