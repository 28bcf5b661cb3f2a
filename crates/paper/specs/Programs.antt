-- Document 01's operations in the paper's names.
use Rattle.lines.specs.Texts.{agree}
use Rattle.runs.specs.Programs.{Comparison, equals, Transformation, source, nothing, text, tag, slot, contents, within}
use Rattle.runs.specs.Programs.{and_then, beside, each, choose, bind, Test, compares, tagged, is_element}
use Rattle.paper.specs.Data.{ori, ori_e, code, none, str, elt, got}
use Rattle.paper.specs.Language.{Judge, Construct, xid, xconst, xvar, xchild, xsetcnt, xseq, xpar, xmap, xif, xlet, Predicate, xeq, xjudged, xwithtag, xiselement}

-- over how a comparison is written
module _ (comparing : Comparison → Construct → Predicate) where
  unfoldable mutual
    pub worded : Transformation → Construct
    worded (source e) = xid  -- 01
    worded (nothing e) = xconst none  -- 02
    worded (text e b) = xconst (str b ori code none)  -- 03
    worded (tag e b) = xconst (elt b ori_e code none none)  -- 04
    worded (slot e k) = xvar k  -- 05
    worded (contents e) = xchild  -- 06
    worded (within e X) = xsetcnt (worded X)  -- 07
    worded (and_then e X Y) = xseq (worded X) (worded Y)  -- 08
    worded (beside e X Y) = xpar (worded X) (worded Y)  -- 09
    worded (each e X) = xmap (worded X)  -- 0A
    worded (choose e P X Y) = xif (worded_test P) (worded X) (worded Y)  -- 0B
    worded (bind e k X) = xlet k (worded X)  -- 0C

    pub worded_test : Test → Predicate
    worded_test (compares e c X) = comparing c (worded X)  -- 11
    worded_test (tagged e t) = xwithtag t  -- 12
    worded_test (is_element e) = xiselement  -- 13

-- ## As document 01 and its requests have them

-- 11: "Test 11 shall compare the texts without the bytes 20 behind their last other byte"
abbrev pub judge_of : Comparison → Judge
judge_of equals ours theirs = got (agree ours theirs)

abbrev pub by_judge : Comparison → Construct → Predicate
by_judge c X = xjudged (judge_of c) X

abbrev pub in_paper : Transformation → Construct
in_paper = worded by_judge

abbrev pub asked : Test → Predicate
asked = worded_test by_judge

-- ## As the paper prints them

-- 11 is `xeq`
abbrev pub by_xeq : Comparison → Construct → Predicate
by_xeq equals X = xeq X

abbrev pub in_print : Transformation → Construct
in_print = worded by_xeq

abbrev pub asked_in_print : Test → Predicate
asked_in_print = worded_test by_xeq
