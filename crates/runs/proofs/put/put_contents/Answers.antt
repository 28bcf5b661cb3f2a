-- The view lies below top, so that the word written there first leaves it as it was.
use mathlib.Core.Path.{◌∙◌, ap₂}
use mathlib.Core.List.{List, [], ◌∷◌}
use Prim.Native.Nat.{ℕ, ◌+◌}
use native.Mathlib.Omega.{arith}
use lib.ListN.{set}
use Rattle.lines.specs.Writing.{put_at}
use Rattle.values.specs.Theorems.Extents.{frame_part}
use Rattle.runs.proofs.PutWords.{put_word, kept_below}
use Rattle.runs.proofs.put.put_contents.Goals as goal

pub returns : goal.returns
returns c =
    let a = c.args.at in
    let w = c.args.work.now in
    let e = put_word w a.top 0 (omega arith) in
    let f = kept_below w a.top (0 ∷ []) e (omega arith) in
    c.copy.ensures ∙ ap₂ (λ (x y : List ℕ). put_at x (a.top + 1) y) e (frame_part w (set w a.top 0) a.top a.view.start a.view.len f (omega arith))
