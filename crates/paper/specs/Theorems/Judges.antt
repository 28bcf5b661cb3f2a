-- A comparison and its judge: `xeq` is judged by equality, and the judge of 11 says what the rules say.
use Rattle.std.specs.Prelude.{◌≡◌, refl, Bool, List, ℕ}
use Rattle.lines.specs.Texts.{same_text}
use Rattle.runs.specs.declared.stop.Stop.{Stop}
use Rattle.runs.specs.declared.stop.Stop.TheVariants.{Source, Size}
use Rattle.runs.specs.Results.{Result, gives, stops}
use Rattle.runs.specs.Programs.{Comparison, equals}
use Rattle.runs.specs.Showing.{verdict}
use Rattle.paper.specs.Data.{Sequence, May, fail, got}
use Rattle.paper.specs.Language.{Judge, Construct, xeq, xjudged}
use Rattle.paper.specs.Contexts.{Context, PairContext}
use Rattle.paper.specs.Operators.{Guard}
use Rattle.paper.specs.Semantics.{asks, holds}
use Rattle.paper.specs.Programs.{judge_of}

-- ## `xeq`

abbrev pub equality : Judge
equality s t = got (same_text s t)

pub xeq_asks : (X : Construct) (C : Context) (S : Sequence) → asks (xeq X) C S ≡ asks (xjudged equality X) C S
unfolding asks
xeq_asks X C S = refl

pub xeq_holds : (g : Guard) (X : Construct) (E : PairContext) (S S' : Sequence) → holds g (xeq X) E S S' ≡ holds g (xjudged equality X) E S S'
unfolding holds
xeq_holds g X E S S' = refl

-- ## What a comparison of the rules says of two texts, beside a judge

-- the answer, or `fail` for a stop for the source; of a stop for size the paper knows nothing
abbrev pub Judged : Result Stop Bool → May Bool → Type 0
Judged (gives b) p = p ≡ got b
Judged (stops (Source e)) p = p ≡ fail
Judged (stops (Size e)) p = Unit {0}

abbrev pub Judges : (List ℕ → List ℕ → Result Stop Bool) → Judge → Type 0
Judges says judge = (s t : List ℕ) → Judged (says s t) (judge s t)

pub judges_verdict : (c : Comparison) (e : ℕ) → Judges (verdict c e) (judge_of c)
unfolding verdict
judges_verdict equals e s t = refl
