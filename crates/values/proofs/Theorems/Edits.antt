-- What a view line brings, when it is an edit, and what is left of a master's line.
use Rattle.std.specs.Prelude.{◌≡◌, refl, Bool, true, false, cond, not, ◌||◌, List, ℕ, eqb}
use Rattle.std.proofs.Common.{sym, ap, ◌∙◌, eqb-true, eq-eqb}
use Rattle.lines.specs.Nodes.{Line, changed_mark, deleted_mark}
use Rattle.lines.specs.Texts.{same_text}
use Rattle.lines.proofs.Theorems.CountedMarks.{by_counted}
use Rattle.values.specs.Standings.{Standing, untouched, locked, changed, deleted, clash, sort, is_untouched, is_clash, same_standing, says, brings, is_edit, hands_back}
use Rattle.values.proofs.Theorems.Gathering.{only}

-- ## What a line brings

-- the three cases of a line: changed to a new text, deleted, or neither
pub by_mark : (P : Bool → Standing → Type 0) (fresh : List ℕ) (mark : ℕ) (bytes : List ℕ)
    → (mark ≡ changed_mark → same_text bytes fresh ≡ false → P true (changed bytes)) → (mark ≡ deleted_mark → P true deleted) → P false untouched
    → P (is_edit fresh mark bytes) (brings fresh mark bytes)
unfolding is_edit brings says
by_mark P fresh mark bytes c d u =
    by_counted (λ m. P (eqb m changed_mark || eqb m deleted_mark) (cond (eqb m changed_mark) (changed bytes) (cond (eqb m deleted_mark) deleted untouched))) fresh mark bytes
    (λ _ _. u) (λ w. go (eqb mark changed_mark) (eqb mark deleted_mark) (λ p. let m = eqb-true mark changed_mark p in c m (w m)) (λ p. d (eqb-true mark deleted_mark p)))
  where
    go : (a b : Bool) → (a ≡ true → P true (changed bytes)) → (b ≡ true → P true deleted) → P (a || b) (cond a (changed bytes) (cond b deleted untouched))
    go true b c d = c refl
    go false true c d = d refl
    go false false c d = u

-- a line is edited exactly if it brings something
pub edit_speaks : (fresh : List ℕ) (mark : ℕ) (bytes : List ℕ) → is_untouched (brings fresh mark bytes) ≡ not (is_edit fresh mark bytes)
unfolding is_untouched sort
edit_speaks fresh mark bytes = by_mark (λ b s. is_untouched s ≡ not b) fresh mark bytes (λ _ _. refl) (λ _. refl) refl

-- lines bring no clash and no lock
abbrev pub FromLine : Standing → Type 0
FromLine s = (is_clash s ≡ false) × (same_standing s locked ≡ false)

pub brings_from_line : (fresh : List ℕ) (mark : ℕ) (bytes : List ℕ) → FromLine (brings fresh mark bytes)
unfolding is_clash same_standing sort
brings_from_line fresh mark bytes = by_mark (λ b s. FromLine s) fresh mark bytes (λ _ _. (refl, refl)) (λ _. (refl, refl)) (refl, refl)

pub untouched_from_line : FromLine untouched
unfolding is_clash same_standing sort
untouched_from_line = (refl, refl)

unfoldable pub is_changed : Standing → Bool
is_changed s = eqb (sort s) 4

pub brings_unchanged : (fresh : List ℕ) (mark : ℕ) (bytes : List ℕ) → eqb mark changed_mark ≡ false → is_changed (brings fresh mark bytes) ≡ false
unfolding is_changed sort
brings_unchanged fresh mark bytes h = by_mark (λ b s. is_changed s ≡ false) fresh mark bytes (λ m _. sym (eq-eqb mark changed_mark m) ∙ h) (λ _. refl) refl

-- ## What is left of a line

-- depth, kind and number stay
pub hands_back_head : (l : Line) (s : Standing) → ((hands_back l s).depth ≡ l.depth) × ((hands_back l s).kind ≡ l.kind) × ((hands_back l s).number ≡ l.number)
unfolding hands_back
hands_back_head l untouched = (refl, refl, refl)
hands_back_head l locked = (refl, refl, refl)
hands_back_head l (changed t) = (refl, refl, refl)
hands_back_head l deleted = (refl, refl, refl)
hands_back_head l clash = (refl, refl, refl)

pub hands_back_text : (l : Line) (s : Standing) → is_changed s ≡ false → (hands_back l s).text ≡ l.text
unfolding hands_back is_changed sort
hands_back_text l untouched h = refl
hands_back_text l locked h = refl
hands_back_text l (changed t) h = cc
hands_back_text l deleted h = refl
hands_back_text l clash h = refl

-- "locked is handed back as untouched"
pub hands_back_lock : (l : Line) (b : Bool) → hands_back l (only b locked) ≡ l
unfolding hands_back
hands_back_lock l true = refl
hands_back_lock l false = refl

-- a line with its edit is as well formed as the master's line and the view's were, whatever rule a form makes of kind, mark and text
pub hands_back_formed : (rule : ℕ → ℕ → List ℕ → Bool) (l w : Line) → rule l.kind l.mark l.text ≡ true → rule w.kind w.mark w.text ≡ true
    → w.kind ≡ l.kind → (eqb w.mark changed_mark ≡ false → w.text ≡ l.text)
    → let r = hands_back l (brings l.text w.mark w.text) in rule r.kind r.mark r.text ≡ true
unfolding hands_back
hands_back_formed rule l w f g k t =
    by_mark (λ b s. rule (hands_back l s).kind (hands_back l s).mark (hands_back l s).text ≡ true) l.text w.mark w.text
    (λ m _. rw (k, m) at g) (λ m. rw (k, m, t (ap (λ (n : ℕ). eqb n changed_mark) m)) at g) f
