-- The contract of a form for C decides what it leaves: two answers with their outputs that satisfy it are the same.
use Rattle.std.specs.Prelude.{◌≡◌, List, ℕ}
use Rattle.std.proofs.Common.{sym, ◌∙◌}
use Rattle.meadcinder.specs.Forms.{PackedOutcome, packed, ShowsInC, PutsBackInC, both_as_read, SweepsInC}

same_packed : (wanted : PackedOutcome) (answer₁ : ℕ) (out₁ : List ℕ) (answer₂ : ℕ) (out₂ : List ℕ)
    → packed answer₁ out₁ ≡ wanted → packed answer₂ out₂ ≡ wanted → (answer₁ ≡ answer₂) × (out₁ ≡ out₂)
same_packed wanted answer₁ out₁ answer₂ out₂ g h =
    let e = g ∙ sym h in
    (cc, cc)

pub show_unique : (master program out : List ℕ) (answer₁ : ℕ) (out₁ : List ℕ) (answer₂ : ℕ) (out₂ : List ℕ)
    → ShowsInC master program out (packed answer₁ out₁) → ShowsInC master program out (packed answer₂ out₂) → (answer₁ ≡ answer₂) × (out₁ ≡ out₂)
show_unique master program out answer₁ out₁ answer₂ out₂ g h = same_packed _ answer₁ out₁ answer₂ out₂ g.packs h.packs

pub put_back_unique : (master program edited out : List ℕ) (answer₁ : ℕ) (out₁ : List ℕ) (answer₂ : ℕ) (out₂ : List ℕ)
    → PutsBackInC master program edited out (packed answer₁ out₁) → PutsBackInC master program edited out (packed answer₂ out₂)
    → (answer₁ ≡ answer₂) × (out₁ ≡ out₂)
put_back_unique master program edited out answer₁ out₁ answer₂ out₂ g h = same_packed _ answer₁ out₁ answer₂ out₂ g.packs h.packs

pub sweep_unique : (master out numbers : List ℕ) (answer₁ : ℕ) (out₁ numbers₁ : List ℕ) (answer₂ : ℕ) (out₂ numbers₂ : List ℕ)
    → SweepsInC master out numbers answer₁ out₁ numbers₁ → SweepsInC master out numbers answer₂ out₂ numbers₂
    → (answer₁ ≡ answer₂) × (out₁ ≡ out₂) × (numbers₁ ≡ numbers₂)
unfolding both_as_read
sweep_unique master out numbers answer₁ out₁ numbers₁ answer₂ out₂ numbers₂ g h =
    let same = same_packed _ answer₁ out₁ answer₂ out₂ g.packs h.packs in
    let e = g.reads ∙ sym h.reads in
    (same.0, same.1, cc)
