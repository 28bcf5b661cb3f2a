-- Tests that are made of two: their parts, and the two ways through a choice.
use Rattle.std.specs.Prelude.{◌≡◌, refl, Bool, true, false, cond, ◌&&◌, ◌||◌, T}
use Rattle.std.proofs.Common.{sym, subst}

pub never : {P : Type 0} → false ≡ true → P
never e = absurd (subst T (sym e) tt)

pub and_left : (a b : Bool) → (a && b) ≡ true → a ≡ true
and_left true b e = refl
and_left false b e = e

pub and_right : (a b : Bool) → (a && b) ≡ true → b ≡ true
and_right true b e = e
and_right false b e = never e

pub and_both : (a b : Bool) → a ≡ true → b ≡ true → (a && b) ≡ true
and_both true b e f = f
and_both false b e f = e

pub and_parts : (a b : Bool) → (a && b) ≡ true → (a ≡ true) × (b ≡ true)
and_parts a b e = (and_left a b e, and_right a b e)

pub or_cases : {P : Type 0} (a b : Bool) → (a ≡ true → P) → (b ≡ true → P) → (a || b) ≡ true → P
or_cases true b f g e = f refl
or_cases false b f g e = g e

pub neither : (a b : Bool) → (a || b) ≡ false → (a ≡ false) × (b ≡ false)
neither true b e = (e, never (sym e))
neither false b e = (refl, e)

pub or_left : (a b : Bool) → a ≡ true → (a || b) ≡ true
or_left a b e = rw e

pub or_right : (a b : Bool) → b ≡ true → (a || b) ≡ true
or_right true b e = refl
or_right false b e = e

pub or_second : (a b : Bool) → a ≡ false → (a || b) ≡ b
or_second a b e = rw e

-- the one, if it is not the other
pub or_other : (a b : Bool) → a ≡ false → (a || b) ≡ true → b ≡ true
or_other a b p e = rw p at e

pub or_unit : (a : Bool) → (a || false) ≡ a
or_unit true = refl
or_unit false = refl

pub or_assoc : (a b c : Bool) → (a || (b || c)) ≡ ((a || b) || c)
or_assoc true b c = refl
or_assoc false b c = refl

-- what holds on both ways through a choice that came out true
pub cond_cases : {P : Type 0} (t a b : Bool) → (a ≡ true → P) → (b ≡ true → P) → cond t a b ≡ true → P
cond_cases true a b f g e = f e
cond_cases false a b f g e = g e

pub is_true : (t : Bool) → T t → t ≡ true
is_true true h = refl
is_true false h = absurd h
