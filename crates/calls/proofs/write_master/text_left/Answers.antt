-- By the word of the standing: the line's own text, or that of a view line, which is empty where there is none.
use Rattle.std.proofs.Common.{◌-◌, ◌∙◌, sym, ap, arith}
use Rattle.std.proofs.lemmas.List.{get_or_past}
use Rattle.lines.specs.Nodes.{Line, no_line}
use Rattle.calls.specs.Engine.Parts.{texts_of}
use Rattle.calls.proofs.HandedLines.{keeps_text, takes_text}
use Rattle.calls.proofs.write_master.text_left.Goals as goal

pub returns-then-word-lt-CHANGED : goal.returns-then-word-lt-CHANGED
returns-then-word-lt-CHANGED c = c.text.ensures ∙ keeps_text (texts_of c.args.view.now) c.args.line.now c.args.word c.if-word-lt-CHANGED.true

pub returns-then-len-j : goal.returns-then-len-j
returns-then-len-j c =
    let none = get_or_past c.args.view.now (c.args.word - 4) no_line (omega arith) in
    c.empty.ensures ∙ (sym (ap (λ (l : Line). l.text) none) ∙ takes_text (texts_of c.args.view.now) c.args.line.now c.args.word c.if-word-lt-CHANGED.false)

pub returns : goal.returns
returns c =
    c.text-2.ensures ∙ (ap (λ (l : Line). l.text) (c.line.ensures.any no_line)
    ∙ takes_text (texts_of c.args.view.now) c.args.line.now c.args.word c.if-word-lt-CHANGED.false)
