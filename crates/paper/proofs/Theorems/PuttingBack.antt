-- Putting back and the paper's backward semantics, over any guard that locks or clashes.
use Rattle.std.specs.Prelude.{refl, Bool, true, false, ℕ}
use Rattle.lines.specs.Texts.{same_text}
use Rattle.lines.specs.Theorems.SameTexts.{same_text_refl}
use Rattle.values.specs.Values.{program, Lookup, element_of, bytes_of}
use Rattle.runs.specs.Programs.{Transformation, source, nothing, text, tag, slot, contents, within}
use Rattle.runs.specs.Programs.{and_then, beside, each, choose, bind, Test, compares, tagged, is_element}
use Rattle.runs.specs.Showing.{verdict, show, test}
use Rattle.runs.specs.PuttingBack.{put_back, put_back_test}
use Rattle.runs.specs.Reading.{Room}
use Rattle.runs.proofs.Theorems.Conservation.{law}
use Rattle.runs.specs.Engine.Trees.{Sound, SoundTest}
use Rattle.paper.specs.Operators.{Guard}
use Rattle.paper.specs.Semantics.{forward, asks, backward, holds}
use Rattle.paper.specs.Programs.{worded, judge_of, in_paper, asked}
use Rattle.paper.specs.Theorems.Judges.{judges_verdict}
use Rattle.paper.specs.Theorems.Trees.{nil, txt, elm}
use Rattle.paper.proofs.Theorems.Brushes.{Permit}
use Rattle.paper.proofs.Theorems.Ends.{PutsBack, TestPutsBack, Guarding}
use Rattle.paper.proofs.Theorems.Singles.{source_back, made_back, slot_back, contents_back, within_back, bind_back}
use Rattle.paper.proofs.Theorems.Pairs.{then_back, beside_back, choose_back}
use Rattle.paper.proofs.Theorems.Items.{each_back}
use Rattle.paper.proofs.Theorems.Tests.{tagged_back, element_back, compares_back}

module _ (look : Lookup) (permit : Permit) (watch : ℕ → Bool) (guard : Guard) (G : Guarding look permit watch guard) where
  mutual
    unfolding show put_back forward backward worded Sound bytes_of element_of same_text

    pub puts_backward : (X : Transformation) (room : Room) → Sound X room
        → PutsBack look permit watch room.slots (show look X) (put_back look X) (forward (in_paper X)) (backward guard (in_paper X))
    puts_backward (source e) room s = source_back look permit watch room.slots
    puts_backward (nothing e) room s = made_back look permit watch room.slots nil tt (λ ss. refl)
    puts_backward (text e b) room s = made_back look permit watch room.slots (txt (program e false b) nil) (refl, tt, tt) (λ ss. rw (same_text_refl b))
    puts_backward (tag e b) room s = made_back look permit watch room.slots (elm (program e true b) nil nil) (refl, tt, tt, tt) (λ ss. rw (same_text_refl b))
    puts_backward (slot e k) room s = slot_back look permit watch room.slots k s
    puts_backward (contents e) room s = contents_back look permit watch room.slots e
    puts_backward (within e X) room s =
        within_back look permit watch room.slots e (show look X) (put_back look X)
        (forward (in_paper X)) (backward guard (in_paper X)) (puts_backward X room s)
    puts_backward (and_then e X Y) room s =
        then_back look permit watch room.slots (show look X) (show look Y) (put_back look X) (put_back look Y)
        (forward (in_paper X)) (forward (in_paper Y)) (backward guard (in_paper X)) (backward guard (in_paper Y))
        (puts_backward X room s.0) (puts_backward Y room s.1) (λ n. law look n Y)
    puts_backward (beside e X Y) room s =
        beside_back look permit watch room.slots e (show look X) (show look Y) (put_back look X) (put_back look Y)
        (forward (in_paper X)) (forward (in_paper Y)) (backward guard (in_paper X)) (backward guard (in_paper Y))
        (puts_backward X room s.0) (puts_backward Y room s.1) (λ n. law look n X) (λ n. law look n Y)
    puts_backward (each e X) room s =
        each_back look permit watch room.slots e (show look X) (put_back look X) (forward (in_paper X)) (backward guard (in_paper X)) (puts_backward X _ s.1) (λ n. law look n X)
    puts_backward (choose e P X Y) room s =
        choose_back look permit watch room.slots (test look P) (put_back_test look P) (asks (asked P)) (holds guard (asked P))
        (show look X) (show look Y) (put_back look X) (put_back look Y)
        (forward (in_paper X)) (forward (in_paper Y)) (backward guard (in_paper X)) (backward guard (in_paper Y))
        (tests_backward P room s.0) (puts_backward X room s.1) (puts_backward Y room s.2) (λ n. law look n X) (λ n. law look n Y)
    puts_backward (bind e k X) room s =
        bind_back look permit watch room.slots k (show look X) (put_back look X)
        (forward (in_paper X)) (backward guard (in_paper X)) (puts_backward X _ s.1)

    pub tests_backward : (P : Test) (room : Room) → SoundTest P room
        → TestPutsBack look permit watch room.slots (test look P) (put_back_test look P) (asks (asked P)) (holds guard (asked P))
    tests_backward (compares e c X) room s =
        compares_back look permit watch guard G room.slots e (verdict c e) (judge_of c) (judges_verdict c e) (show look X) (put_back look X)
        (forward (in_paper X)) (backward guard (in_paper X)) (puts_backward X room s)
    tests_backward (tagged e t) room s = tagged_back look permit watch room.slots e t
    tests_backward (is_element e) room s = element_back look permit watch room.slots e
