-- Each public call's contract decides its outcome: two outcomes that satisfy it are the same.
use Rattle.std.specs.Prelude.{◌≡◌, List, ℕ}
use Rattle.std.proofs.Common.{sym, ◌∙◌}
use Rattle.calls.specs.Outcomes.{Outcome, outcome, show_call, put_back_call}

-- number, place, length and both slices alike
pub record Same (number₁ place₁ length₁ : ℕ) (out₁ second₁ : List ℕ) (number₂ place₂ length₂ : ℕ) (out₂ second₂ : List ℕ) : Type 0 where
  pub number : number₁ ≡ number₂
  pub place : place₁ ≡ place₂
  pub length : length₁ ≡ length₂
  pub out : out₁ ≡ out₂
  pub second : second₁ ≡ second₂

-- two outcomes that meet the same wanted one
pub same_outcome : (wanted : Outcome) (number₁ place₁ length₁ : ℕ) (out₁ second₁ : List ℕ) (number₂ place₂ length₂ : ℕ) (out₂ second₂ : List ℕ)
    → outcome number₁ place₁ length₁ out₁ second₁ ≡ wanted → outcome number₂ place₂ length₂ out₂ second₂ ≡ wanted
    → Same number₁ place₁ length₁ out₁ second₁ number₂ place₂ length₂ out₂ second₂
same_outcome wanted number₁ place₁ length₁ out₁ second₁ number₂ place₂ length₂ out₂ second₂ g h =
    let e = g ∙ sym h in
    record { number = cc; place = cc; length = cc; out = cc; second = cc }

-- ## The calls

pub show_unique : (master program out work : List ℕ) (number₁ place₁ length₁ : ℕ) (out₁ work₁ : List ℕ) (number₂ place₂ length₂ : ℕ) (out₂ work₂ : List ℕ)
    → outcome number₁ place₁ length₁ out₁ work₁ ≡ show_call master program out work
    → outcome number₂ place₂ length₂ out₂ work₂ ≡ show_call master program out work
    → Same number₁ place₁ length₁ out₁ work₁ number₂ place₂ length₂ out₂ work₂
show_unique master program out work = same_outcome (show_call master program out work)

pub put_back_unique : (master program edited out work : List ℕ) (number₁ place₁ length₁ : ℕ) (out₁ work₁ : List ℕ) (number₂ place₂ length₂ : ℕ) (out₂ work₂ : List ℕ)
    → outcome number₁ place₁ length₁ out₁ work₁ ≡ put_back_call master program edited out work
    → outcome number₂ place₂ length₂ out₂ work₂ ≡ put_back_call master program edited out work
    → Same number₁ place₁ length₁ out₁ work₁ number₂ place₂ length₂ out₂ work₂
put_back_unique master program edited out work = same_outcome (put_back_call master program edited out work)
