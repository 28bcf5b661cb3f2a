-- The line of a word: its text from the lookup; and the lines of a view, word by word.
use mathlib.Core.Path.{◌≡◌, refl, sym, ◌∙◌, ap, ap₂}
use mathlib.Core.Bool.{true}
use mathlib.Core.List.{List, [], ◌∷◌}
use Prim.Native.Nat.{ℕ, zero, suc, ◌+◌, ◌/◌, ◌≤◌, ◌<◌}
use native.Mathlib.Nat.{not-suc-le-zero, le_of_suc-le-suc}
use native.Mathlib.Omega.{arith}
use lib.Dec.{leb}
use lib.ListN.{length, get_or, drop, length-map, drop_of_length-le}
use borrow.Author.Tests.{leb-true}
use Rattle.lines.specs.declared.write.Head.{Head}
use Rattle.lines.specs.Entries.{Entry}
use Rattle.lines.specs.Nodes.{Line, no_line}
use Rattle.lines.specs.Texts.{same_text}
use Rattle.lines.specs.Theorems.Bools.{and_left, and_right}
use Rattle.lines.specs.Theorems.Lists.{drop_one, map_at}
use Rattle.lines.specs.Theorems.LinesAt.{line_at_map}
use Rattle.lines.specs.Theorems.WritingLines.{Fitting}
use Rattle.lines.specs.Engine.Writes.{headed}
use Rattle.values.specs.Values.{Origin, master, program, Node, Value, bytes_of, shallow, within_bounds, most_nodes}
use Rattle.values.specs.Engine.Words.{part, node_of, value_at}
use Rattle.values.specs.Theorems.Extents.{length_part, get_d_part}
use Rattle.values.proofs.Theorems.WordLaws.{length_value}
use Rattle.runs.specs.Grounds.{numbered_from, shown_line, view}
use Rattle.runs.specs.Engine.Runs.{made_by, lookup_of}
use Rattle.calls.specs.Engine.Parts.{word_line, view_lines, ViewRoom}
use Rattle.calls.specs.Theorems.ShownNumbers.{line_is}

-- a head by its fields
pub head_is : {d d' k k' m m' n n' : ℕ} → d ≡ d' → k ≡ k' → m ≡ m' → n ≡ n'
    → ◌≡◌ {A = Head} (record { depth = d; kind = k; mark = m; number = n }) (record { depth = d'; kind = k'; mark = m'; number = n' })
head_is d k m n = λ i. record { depth = d i; kind = k i; mark = m i; number = n i }

-- ## One word

module _ (E : List Entry) (L : List Line) (x : ℕ) where
  abbrev origin : Origin
  origin = (node_of (made_by E) x).origin

  text_shown : (d : ℕ) (o : Origin) → (shown_line (numbered_from 0 L) d o).text ≡ bytes_of (lookup_of L) o
  unfolding shown_line bytes_of lookup_of
  text_shown d (master n) = ap (λ (l : Line). l.text) (line_is L n)
  text_shown d (program e b t) = refl

  -- the text that the lookup finds is the line's
  pub word_text : {t : List ℕ} → t ≡ bytes_of (lookup_of L) (node_of (made_by E) x).origin → t ≡ (word_line E L x).text
  word_text q = q ∙ sym (text_shown _ origin)

  -- a line's text beside it
  pub same_as_word : (l : Line) {s t : List ℕ} → s ≡ l.text → t ≡ bytes_of (lookup_of L) (node_of (made_by E) x).origin → same_text s t ≡ same_text l.text (word_line E L x).text
  same_as_word l p q = ap₂ same_text p (word_text q)

  -- a head of the word's line, with the word's text
  pub word_line_bytes : {h : Head} {t : List ℕ} → headed h (word_line E L x).text ≡ word_line E L x → t ≡ bytes_of (lookup_of L) (node_of (made_by E) x).origin
      → headed h t ≡ word_line E L x
  word_line_bytes {h} e q = ap (headed h) (word_text q) ∙ e

-- ## The words of a value

shallow_at : (v : Value) (i : ℕ) (d : Node) → shallow v ≡ true → i < length v → (get_or v i d).depth ≤ 9
unfolding shallow
shallow_at [] i d e h = absurd (not-suc-le-zero h)
shallow_at (x ∷ v) zero d e h = leb-true x.depth 9 (and_left (leb x.depth 9) (shallow v) e)
shallow_at (x ∷ v) (suc i) d e h = shallow_at v i d (and_right (leb x.depth 9) (shallow v) e) (le_of_suc-le-suc h)

module _ (E : List Entry) (L : List Line) (w : List ℕ) (len : ℕ) (inside : 128 + len ≤ length w) where
  abbrev value : Value
  value = value_at (made_by E) w 128 len

  value_long : length value ≡ len
  value_long = length_value (made_by E) w 128 len inside

  value_is : (i : ℕ) (d : Node) → i < len → get_or value i d ≡ node_of (made_by E) (get_or w (128 + i) 0)
  unfolding value_at
  value_is i d h =
      line_at_map (node_of (made_by E)) (part w 128 len) i d (omega (arith, length_part w 128 len inside)) ∙ ap (node_of (made_by E)) (get_d_part w 128 len i h)

  pub view_long : length (view_lines E L w len) ≡ len
  unfolding view
  view_long = length-map value _ ∙ value_long

  -- a line a word
  pub view_at : (i : ℕ) → i < len → get_or (view_lines E L w len) i no_line ≡ word_line E L (get_or w (128 + i) 0)
  unfolding view
  view_at i h =
      let line : Node → Line = λ n. shown_line (numbered_from 0 L) n.depth n.origin in
      let d = node_of (made_by E) 0 in
      map_at line value i no_line d (omega (arith, value_long)) ∙ ap line (value_is i d h)

  -- the lines from line i on: one, or none
  pub view_one : (i : ℕ) → i < len → drop i (view_lines E L w len) ≡ word_line E L (get_or w (128 + i) 0) ∷ drop (i + 1) (view_lines E L w len)
  view_one i h =
      drop_one (view_lines E L w len) i no_line (omega (arith, view_long)) ∙ ap (λ (l : Line). l ∷ drop (i + 1) (view_lines E L w len)) (view_at i h)

  pub view_none : (i : ℕ) → len ≤ i → drop i (view_lines E L w len) ≡ []
  view_none i h = let long : length (view_lines E L w len) ≤ i = omega (arith, view_long) in drop_of_length-le (view_lines E L w len) long

  -- depths are bytes
  pub view_depth : within_bounds (value_at (made_by E) w 128 len) ≡ true → (i : ℕ) → i < len → get_or w (128 + i) 0 / 0x10000 < 256
  unfolding within_bounds node_of
  view_depth bounds i h =
      let d = node_of (made_by E) 0 in
      let low = shallow_at value i d (and_right (leb (length value) most_nodes) (shallow value) bounds) (omega (arith, value_long)) in
      let word = rw (value_is i d h) at low in
      omega arith

pub view_fits : {E : List Entry} {L : List Line} {w : List ℕ} {len : ℕ} {out : List ℕ} → ViewRoom E L w len out → Fitting (view_lines E L w len) out len
view_fits {E} {L} {w} {len} r = record { all = view_long E L w len r.words.0; room = r.room }
