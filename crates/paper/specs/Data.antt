-- Section 3.1, Fig. 3: source data and target data.
-- One addition: an origin in the source carries its node's number, so that it can be said which node a string comes from. No rule reads it.
use Rattle.std.specs.Prelude.{ℕ, zero, suc, Bool, true, false, ◌&&◌, List}
use Rattle.lines.specs.Texts.{same_text}

-- u
pub data Updating : Type 0 where
  ori non mod' del : Updating

-- w
pub data ElementUpdating : Type 0 where
  ori_e del_e : ElementUpdating

-- o: s with the number, or c
pub data From : Type 0 where
  src : ℕ → From
  code : From

-- S, T: (), or a string or an element in front of a sequence
pub data Sequence : Type 0 where
  none : Sequence
  str : List ℕ → Updating → From → Sequence → Sequence
  elt : List ℕ → ElementUpdating → From → Sequence → Sequence → Sequence

-- S1, S2
infixl 40 ◌⧺◌
abbrev pub ◌⧺◌ : Sequence → Sequence → Sequence
none ⧺ T = T
str t u o S ⧺ T = str t u o (S ⧺ T)
elt t w o K S ⧺ T = elt t w o K (S ⧺ T)

abbrev pub len : Sequence → ℕ
len none = zero
len (str t u o S) = suc (len S)
len (elt t w o K S) = suc (len S)

-- ## Executions: "If its executions get stuck, X returns the special value fail"

pub data May (A : Type 0) : Type 0 where
  fail : May A
  got : A → May A

infixl 20 ◌>>=◌ ◌>>◌
abbrev pub ◌>>=◌ : {A B : Type 0} → May A → (A → May B) → May B
fail >>= k = fail
got a >>= k = k a

abbrev pub ◌>>◌ : {A : Type 0} → May (Unit {0}) → May A → May A
fail >> r = fail
got u >> r = r

-- "if .., fail otherwise"
abbrev pub provided : Bool → May (Unit {0})
provided true = got tt
provided false = fail

-- ## The shapes that rules ask for

-- S = ()
abbrev pub is_none : Sequence → Bool
is_none none = true
is_none (str t u o S) = false
is_none (elt t w o K S) = false

-- S = str^(u,o)
abbrev pub the_string : Sequence → May (List ℕ)
the_string none = fail
the_string (str t u o S) = provided (is_none S) >> got t
the_string (elt t w o K S) = fail

-- S = <tag^(w,o)>[S']
pub record Element : Type 0 where
  pub tag : List ℕ
  pub state : ElementUpdating
  pub origin : From
  pub contents : Sequence

abbrev pub the_element : Sequence → May Element
the_element none = fail
the_element (str t u o S) = fail
the_element (elt t w o K S) = provided (is_none S) >> got (record { tag = t; state = w; origin = o; contents = K })

-- S = str^(u,o) or S = <tag^(w,o)>[S']: whether it is an element
abbrev pub the_item : Sequence → May Bool
the_item none = fail
the_item (str t u o S) = provided (is_none S) >> got false
the_item (elt t w o K S) = provided (is_none S) >> got true

-- ## Equality

abbrev pub same_updating : Updating → Updating → Bool
same_updating ori ori = true
same_updating ori non = false
same_updating ori mod' = false
same_updating ori del = false
same_updating non ori = false
same_updating non non = true
same_updating non mod' = false
same_updating non del = false
same_updating mod' ori = false
same_updating mod' non = false
same_updating mod' mod' = true
same_updating mod' del = false
same_updating del ori = false
same_updating del non = false
same_updating del mod' = false
same_updating del del = true

abbrev pub same_element_updating : ElementUpdating → ElementUpdating → Bool
same_element_updating ori_e ori_e = true
same_element_updating ori_e del_e = false
same_element_updating del_e ori_e = false
same_element_updating del_e del_e = true

-- s is s, whatever the number
abbrev pub same_from : From → From → Bool
same_from (src n) (src m) = true
same_from (src n) code = false
same_from code (src m) = false
same_from code code = true

abbrev pub same_sequence : Sequence → Sequence → Bool
same_sequence none none = true
same_sequence none (str t u o S) = false
same_sequence none (elt t w o K S) = false
same_sequence (str t u o S) none = false
same_sequence (str t u o S) (str t' u' o' S') = same_text t t' && (same_updating u u' && (same_from o o' && same_sequence S S'))
same_sequence (str t u o S) (elt t' w o' K S') = false
same_sequence (elt t w o K S) none = false
same_sequence (elt t w o K S) (str t' u o' S') = false
same_sequence (elt t w o K S) (elt t' w' o' K' S') =
    same_text t t' && (same_element_updating w w' && (same_from o o' && (same_sequence K K' && same_sequence S S')))
