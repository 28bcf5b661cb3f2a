-- Fig. 7 made as strict as document 01: a compared text that was changed or deleted does not pass.
use Rattle.std.specs.Prelude.{Bool, List, ℕ}
use Rattle.lines.specs.Texts.{same_text}
use Rattle.paper.specs.Data.{Updating, ori, non, mod', del, From, src, code, Sequence, none, str, elt, May, fail, got, ◌>>◌, provided, is_none}
use Rattle.paper.specs.Operators.{Guard}

abbrev pub strict_string : List ℕ → Updating → From → Bool → May Sequence
strict_string t ori (src n) same = provided same >> got (str t non (src n) none)
strict_string t non (src n) same = provided same >> got (str t non (src n) none)
strict_string t mod' (src n) same = fail
strict_string t del (src n) same = fail
strict_string t ori code same = provided same >> got (str t ori code none)
strict_string t non code same = fail
strict_string t mod' code same = fail
strict_string t del code same = fail

abbrev pub strict_guard : Guard
strict_guard none t' = fail
strict_guard (str t u o S) t' = provided (is_none S) >> strict_string t u o (same_text t t')
strict_guard (elt t w o K S) t' = fail
