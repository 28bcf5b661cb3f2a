-- The lines of a view: one of a node has its number, kind, mark and bytes; one that the program made is the same over every ground; depths are the value's.
use Rattle.std.specs.Prelude.{◌≡◌, refl, true, false, List, [], ◌∷◌, ℕ, zero, suc}
use Rattle.std.proofs.Common.{sym, ap, arith, eqb-true, eq-eqb}
use Rattle.lines.specs.Nodes.{Line, line_at}
use Rattle.values.specs.Values.{Origin, master, program, Value, is_from}
use Rattle.values.specs.Theorems.Copies.{is_copy}
use Rattle.runs.specs.Grounds.{Numbered, line_of, Ground, shown_line, view}

-- w shows node n as its line l has it
pub record Shows (n : ℕ) (l w : Line) : Type 0 where
  pub number : w.number ≡ n
  pub kind : w.kind ≡ l.kind
  pub mark : w.mark ≡ l.mark
  pub text : w.text ≡ l.text

shown_line_shows : (ls : List Numbered) (d n : ℕ) (x : Origin) → is_from n x ≡ true → Shows n (line_of ls n) (shown_line ls d x)
unfolding shown_line is_from
shown_line_shows ls d n (master m) h =
    let e = sym (eqb-true n m h) in
    record {
      number = e;
      kind = ap (λ (j : ℕ). (line_of ls j).kind) e;
      mark = ap (λ (j : ℕ). (line_of ls j).mark) e;
      text = ap (λ (j : ℕ). (line_of ls j).text) e;
    }
shown_line_shows ls d n (program e b t) h = let z : ◌≡◌ {A = ℕ} 0 1 = cc in absurd (omega arith)

pub view_shows : (G : Ground) (v : Value) (n i : ℕ) → is_copy n v i ≡ true → Shows n (line_of G.lines n) (line_at (view G v) i)
unfolding view is_copy
view_shows G [] n i h = let z : ◌≡◌ {A = ℕ} 0 1 = cc in absurd (omega arith)
view_shows G (x ∷ v) n zero h = shown_line_shows G.lines x.depth n x.origin h
view_shows G (x ∷ v) n (suc i) h = view_shows G v n i h

made_same : (ls ms : List Numbered) (d : ℕ) (x : Origin) → ((n : ℕ) → is_from n x ≡ false) → shown_line ls d x ≡ shown_line ms d x
unfolding shown_line is_from
made_same ls ms d (master m) h = let p = h m in let q = eq-eqb m m refl in cc
made_same ls ms d (program e b t) h = refl

-- a line that no node has is the program's
pub view_made : (G H : Ground) (v : Value) (i : ℕ) → ((n : ℕ) → is_copy n v i ≡ false) → line_at (view G v) i ≡ line_at (view H v) i
unfolding view is_copy
view_made G H [] i h = refl
view_made G H (x ∷ v) zero h = made_same G.lines H.lines x.depth x.origin h
view_made G H (x ∷ v) (suc i) h = view_made G H v i h

pub shown_line_depth : (ls : List Numbered) (d : ℕ) (x : Origin) → (shown_line ls d x).depth ≡ d
unfolding shown_line
shown_line_depth ls d (master n) = refl
shown_line_depth ls d (program e b t) = refl

pub view_depth : (G H : Ground) (v : Value) (i : ℕ) → (line_at (view G v) i).depth ≡ (line_at (view H v) i).depth
unfolding view
view_depth G H [] i = refl
view_depth G H (x ∷ v) zero = rw (shown_line_depth G.lines x.depth x.origin, shown_line_depth H.lines x.depth x.origin)
view_depth G H (x ∷ v) (suc i) = view_depth G H v i
