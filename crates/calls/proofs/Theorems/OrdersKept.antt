-- No put-back writes other bytes than `hi-lo` or `lo-hi` into an order, or gives a node another kind.
use Rattle.std.specs.Prelude.{◌≡◌, true, List, length}
use Rattle.std.proofs.Common.{sym, ap, ◌∙◌, inl, inr, arith}
use Rattle.lines.specs.Nodes.{Line, nodes, line_at}
use Rattle.lines.specs.Writing.{file_of}
use Rattle.lines.specs.Theorems.PutAt.{put_front}
use Rattle.lines.proofs.Theorems.RoundTrip.{nodes_written}
use Rattle.lines.specs.Theorems.KindRules.{order_word, rule_order}
use Rattle.lines.specs.Theorems.LineRules.{rule_kind, fields_at}
use Rattle.lines.specs.Engine.Writes.{AllWritable}
use Rattle.runs.specs.Results.{gives}
use Rattle.runs.specs.Programs.{Transformation}
use Rattle.runs.specs.Grounds.{numbered_from, one_master, standing_for}
use Rattle.runs.proofs.Theorems.OneMaster.{length_handed_back, one_handed_back}
use Rattle.calls.specs.Judging.{judged_standings, judged_put_back}
use Rattle.calls.specs.Outcomes.{put_back_call}
use Rattle.calls.specs.Demands.{number_of, written, OrdersKept, KeepsOrders}
use Rattle.calls.proofs.Theorems.Judged.{standings_passed, master_passed, put_back_passed}
use Rattle.calls.proofs.Theorems.Replies.{put_back_refusals, by_outcome}
use Rattle.calls.specs.Theorems.ShownNumbers.{line_is, handed_kind}
use Rattle.calls.proofs.Theorems.Returned.{returned_lines}

-- ## On lines

handed_orders : (ls : List Line) (X : Transformation) (es hs : List Line) → judged_standings (one_master ls) X es ≡ gives hs → AllWritable hs → OrdersKept ls hs
handed_orders ls X es hs h form =
    let s = standing_for (one_master ls) X es in
    let back = sym (standings_passed (one_master ls) X es hs h).1 in
    record {
      count = ap length back ∙ length_handed_back s 0 ls;
      kind = λ n. ap (λ (ks : List Line). (line_at ks n).kind) back
          ∙ (ap (λ (l : Line). l.kind) (one_handed_back s ls n) ∙ (handed_kind s (numbered_from 0 ls) n ∙ ap (λ (l : Line). l.kind) (line_is ls n)));
      word = λ n k.
          let l = line_at hs n in
          order_word l.text (rule_order l.kind l.mark l.text (rule_kind l.kind l.mark l.text (fields_at hs form n).rule) k) inl inr;
    }

-- ## On bytes

pub order_kept : KeepsOrders put_back_call
unfolding put_back_call
order_kept master program edited out work =
    by_outcome (λ z. number_of z ≡ 0 → OrdersKept (nodes master) (nodes (written z))) (judged_put_back master program edited) out work
    (λ _ e. absurd (omega arith))
    (λ r _ j e. let s = put_back_refusals master program edited r j in absurd (omega arith))
    (λ hs _ j _.
    let p = put_back_passed master program edited hs j in
    let form = (returned_lines master program edited hs j).0 in
    rw (put_front out (file_of hs), nodes_written hs form, (master_passed true master p.ls p.master_judged).holds.lines)
    (handed_orders p.ls p.tree p.es hs p.standings_judged form))
