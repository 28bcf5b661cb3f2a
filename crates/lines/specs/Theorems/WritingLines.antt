-- A loop that writes lines from the front of a buffer, one behind the other.
use Rattle.std.specs.Prelude.{◌≡◌, List, [], ◌∷◌, ◌++◌, ℕ, ◌+◌, ◌≤◌, ◌<◌, length, get_or, take, drop}
use Rattle.std.proofs.Math.Path.{refl}
use Rattle.std.proofs.Common.{sym, ◌∙◌, ap, subst, append_assoc, append-nil, add-one, arith, length-append, take-append-drop, take-suc, take_all}
use Rattle.lines.specs.Nodes.{Line, no_line}
use Rattle.lines.specs.Writing.{line_bytes, file_of, put_at}
use Rattle.lines.specs.Theorems.PutAt.{length_put, put_none, put_join}
use Rattle.lines.specs.Engine.Writes.{Written, WroteLines}

-- ## Files in two

pub file_append : (a b : List Line) → file_of (a ++ b) ≡ file_of a ++ file_of b
unfolding file_of
file_append [] b = refl
file_append (l ∷ a) b = ap (λ (r : List ℕ). line_bytes l ++ r) (file_append a b) ∙ sym (append_assoc (line_bytes l) (file_of a) (file_of b))

pub file_one : (l : Line) → file_of (l ∷ []) ≡ line_bytes l
unfolding file_of
file_one l = append-nil (line_bytes l)

-- ## One line, under another name

module _ {l m : Line} (e : l ≡ m) where
  pub room_as : (pos : ℕ) {room : ℕ} → pos + length (line_bytes m) ≤ room → pos + length (line_bytes l) ≤ room
  room_as pos h = rw e h

  pub written_as : {out out' : List ℕ} {pos end : ℕ} → Written out out' pos (line_bytes l) end → Written out out' pos (line_bytes m) end
  written_as g = rw (← e) g

-- ## The loop

-- where it stands: i of the lines are written
pub record Writing (ls : List Line) (out₀ out : List ℕ) (pos i : ℕ) : Type 0 where
  pub long : length out ≡ length out₀
  pub so_far : WroteLines (take i ls) out₀ out pos

-- the lines, one for each of len; they fit
pub record Fitting (ls : List Line) (out₀ : List ℕ) (len : ℕ) : Type 0 where
  pub all : length ls ≡ len
  pub room : length (file_of ls) ≤ length out₀

module _ {ls : List Line} {out₀ : List ℕ} {len : ℕ} (f : Fitting ls out₀ len) where
  file_fits : (i : ℕ) → length (file_of (take i ls)) ≤ length out₀
  file_fits i =
      let e : file_of ls ≡ file_of (take i ls) ++ file_of (drop i ls) = ap file_of (sym (take-append-drop i ls)) ∙ file_append (take i ls) (drop i ls) in
      omega (arith, f.room, ap length e, length-append (file_of (take i ls)) (file_of (drop i ls)))

  pub writing_starts : Writing ls out₀ out₀ 0 0
  unfolding file_of
  writing_starts = record { long = refl; so_far = record { lines = put_none out₀ 0; behind = refl } }

  -- line i, where the loop stands
  module _ {out : List ℕ} {pos i : ℕ} {l : Line} (p : Writing ls out₀ out pos i) (h : i < len) (e : get_or ls i no_line ≡ l) where
    next : file_of (take (i + 1) ls) ≡ file_of (take i ls) ++ line_bytes l
    next =
        rw (add-one, take-suc ls i no_line (omega (arith, f.all)), e)
        (file_append (take i ls) (l ∷ []) ∙ ap (λ (r : List ℕ). file_of (take i ls) ++ r) (file_one l))

    next_long : length (file_of (take (i + 1) ls)) ≡ pos + length (line_bytes l)
    next_long = ap length next ∙ (length-append (file_of (take i ls)) (line_bytes l) ∙ omega (arith, p.so_far.behind))

    pub writing_room : pos + length (line_bytes l) ≤ length out
    writing_room = omega (arith, p.long, next_long, file_fits (i + 1))

    pub writing_goes_on : {out' : List ℕ} {end : ℕ} → Written out out' pos (line_bytes l) end → Writing ls out₀ out' end (i + 1)
    writing_goes_on {out'} {end} g =
        let before = file_of (take i ls) in
        let room : 0 + length (before ++ line_bytes l) ≤ length out₀ = omega (arith, ap length next, file_fits (i + 1)) in
        let put : out' ≡ put_at out₀ 0 (before ++ line_bytes l) =
        g.lines
        ∙ (ap (λ (x : List ℕ). put_at x pos (line_bytes l)) p.so_far.lines ∙ put_join out₀ 0 before (line_bytes l) pos (omega (arith, p.so_far.behind)) (omega arith)) in
        record {
          long = ap length put ∙ length_put out₀ 0 (before ++ line_bytes l) room;
          so_far = record { lines = put ∙ ap (put_at out₀ 0) (sym next); behind = g.behind ∙ sym next_long };
        }

  pub writing_ends : {out : List ℕ} {pos i : ℕ} → Writing ls out₀ out pos i → len ≤ i → WroteLines ls out₀ out pos
  writing_ends {out} {pos} {i} p h = subst (λ (r : List Line). WroteLines r out₀ out pos) (take_all i ls (omega (arith, f.all))) p.so_far
