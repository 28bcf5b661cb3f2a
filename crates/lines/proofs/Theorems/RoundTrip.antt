-- What is written reads back as what was written, and a good file written again is the same bytes.
use mathlib.Core.Path.{◌≡◌, refl, sym, ◌∙◌, ap, ap₂, subst}
use Rattle.std.specs.Prelude.{Bool, true, false, cond, ◌&&◌, ℕ, suc, ◌+◌, ◌*◌, ◌/◌, ◌%◌, ◌≤◌, ◌<◌, eqb, leb, ltb, get_or, Ok, Err}
use mathlib.Core.List.{List, [], ◌∷◌, ◌++◌, map}
use native.Mathlib.Omega.{arith}
use Rattle.std.proofs.Math.ListN.{length}
use Rattle.std.proofs.Common.{length-append, lt-ltb, le-leb, leb-true, eqb-true}
use Rattle.lines.specs.declared.scan.File.{File}
use Rattle.lines.specs.declared.scan.File.TheVariants.{Master, View}
use Rattle.lines.specs.Hex.{hex_digit, decode, encode}
use Rattle.lines.specs.Lines.{push, cut, pairs_then_end, is_line}
use Rattle.lines.specs.Nodes.{Line, node_form, node_line, node_of, nodes}
use Rattle.lines.specs.Files.{form_of, limit_of, scan_from, scan}
use Rattle.lines.specs.Writing.{bytes_of, line_bytes, file_of}
use Rattle.lines.specs.Theorems.Bools.{and_left, and_right}
use Rattle.lines.proofs.Theorems.Pairs.{digit_ends_nothing, length_encode, decode_bytes, decode_encode, encode_decode, pairs_encode}
use Rattle.lines.specs.Theorems.Cutting.{joined, joined_cut}
use Rattle.lines.specs.Engine.Writes.{Bytes, Writable, AllWritable}

-- ## One line

pub length_line : (n : Line) → length (line_bytes n) ≡ 13 + 2 * length n.text
unfolding line_bytes bytes_of
length_line n = omega (arith, length-append (encode (bytes_of n)) (0x0A ∷ []), length_encode (bytes_of n))

node_bytes : (n : Line) → node_of (bytes_of n) ≡ n
unfolding bytes_of
node_bytes n =
    let z : 256 * (n.number / 256) + n.number % 256 ≡ n.number = omega arith in
    λ i. record { depth = n.depth; kind = n.kind; mark = n.mark; number = z i; text = n.text }

-- a written line reads back as what was written
pub read_line : (n : Line) → Writable n → node_of (decode (line_bytes n)) ≡ n
unfolding line_bytes
read_line n g = ap node_of (decode_encode (bytes_of n) g.bytes) ∙ node_bytes n

pub written_line : (n : Line) → Writable n → node_line (line_bytes n) ≡ true
unfolding node_line is_line node_form line_bytes
written_line n g =
    let six = leb-true 6 (length (bytes_of n)) (and_left (leb 6 (length (bytes_of n))) _ g.form) in
    rw (pairs_encode (bytes_of n) g.bytes, decode_encode (bytes_of n) g.bytes, le-leb 1 (length (bytes_of n)) (omega arith)) g.form

-- bytes of a node's form are the bytes of their node
bytes_node : (b : List ℕ) → Bytes b → node_form b ≡ true → bytes_of (node_of b) ≡ b
unfolding bytes_of node_form
bytes_node b small e =
    six b small (leb-true 6 (length b) (and_left (leb 6 (length b)) _ e))
    (eqb-true (length b) (6 + get_or b 5 0) (and_left (eqb (length b) (6 + get_or b 5 0)) _ (and_right (leb 6 (length b)) _ e)))
  where
    six : (b : List ℕ) → Bytes b → 6 ≤ length b → length b ≡ 6 + get_or b 5 0 → bytes_of (node_of b) ≡ b
    six [] small h q = absurd (omega arith)
    six (d ∷ []) small h q = absurd (omega arith)
    six (d ∷ k ∷ []) small h q = absurd (omega arith)
    six (d ∷ k ∷ m ∷ []) small h q = absurd (omega arith)
    six (d ∷ k ∷ m ∷ x ∷ []) small h q = absurd (omega arith)
    six (d ∷ k ∷ m ∷ x ∷ y ∷ []) small h q = absurd (omega arith)
    six (d ∷ k ∷ m ∷ x ∷ y ∷ l ∷ t) small h q =
        let low : y < 256 = small.1.1.1.1.0 in
        let u : (256 * x + y) / 256 ≡ x = omega arith in
        let v : (256 * x + y) % 256 ≡ y = omega arith in
        let w : length t ≡ l = omega arith in
        rw (u, v, w)

-- a line of a node's form, written again
rewrite_line : (c : List ℕ) → node_line c ≡ true → line_bytes (node_of (decode c)) ≡ c
unfolding node_line is_line line_bytes
rewrite_line c e =
    let pairs = and_left (pairs_then_end c) _ (and_left (is_line c) (node_form (decode c)) e) in
    rw (bytes_node (decode c) (decode_bytes c) (and_right (is_line c) (node_form (decode c)) e)) (encode_decode c pairs)

read_writable : (c : List ℕ) → node_line c ≡ true → Writable (node_of (decode c))
unfolding node_line
read_writable c e =
    let f = and_right (is_line c) (node_form (decode c)) e in
    let q = bytes_node (decode c) (decode_bytes c) f in
    record { bytes = subst Bytes (sym q) (decode_bytes c); form = rw q f }

-- ## A file

lines_bytes : List Line → List (List ℕ)
lines_bytes [] = []
lines_bytes (n ∷ ns) = line_bytes n ∷ lines_bytes ns

pub cut_encode : (b rest : List ℕ) → Bytes b → cut ((encode b ++ (0x0A ∷ [])) ++ rest) ≡ (encode b ++ (0x0A ∷ [])) ∷ cut rest
unfolding cut encode push
cut_encode [] rest g = refl
cut_encode (x ∷ b) rest g =
    let h = g.0 in
    rw (digit_ends_nothing (x / 16) (omega arith), digit_ends_nothing (x % 16) (omega arith))
    (ap (λ (l : List (List ℕ)). push (hex_digit (x / 16)) (push (hex_digit (x % 16)) l)) (cut_encode b rest g.1))

cut_file : (ns : List Line) → AllWritable ns → cut (file_of ns) ≡ lines_bytes ns
unfolding file_of lines_bytes line_bytes cut
cut_file [] g = refl
cut_file (n ∷ ns) g = cut_encode (bytes_of n) (file_of ns) g.0.bytes ∙ ap (λ (l : List (List ℕ)). (encode (bytes_of n) ++ (0x0A ∷ [])) ∷ l) (cut_file ns g.1)

scan_lines_of : (limit k : ℕ) (ns : List Line) → AllWritable ns → k + length ns ≤ limit → scan_from node_line limit k (lines_bytes ns) ≡ Ok (k + length ns)
unfolding scan_from lines_bytes
scan_lines_of limit k [] g h = ap Ok (let z : k ≡ k + 0 = omega arith in z)
scan_lines_of limit k (n ∷ ns) g h =
    rw (lt-ltb k limit (omega arith), written_line n g.0)
    (scan_lines_of limit (suc k) ns g.1 (omega arith) ∙ ap Ok (let z : suc k + length ns ≡ k + suc (length ns) = omega arith in z))

nodes_lines_of : (ns : List Line) → AllWritable ns → map (λ c. node_of (decode c)) (lines_bytes ns) ≡ ns
unfolding lines_bytes
nodes_lines_of [] g = refl
nodes_lines_of (n ∷ ns) g = ap₂ (λ (a : Line) (r : List Line). a ∷ r) (read_line n g.0) (nodes_lines_of ns g.1)

-- what a scan that took all lines says of each of them
module _ (limit : ℕ) where
  rewrite_from : (cs : List (List ℕ)) (k n : ℕ) → scan_from node_line limit k cs ≡ Ok n
      → (file_of (map (λ c. node_of (decode c)) cs) ≡ joined cs) × AllWritable (map (λ c. node_of (decode c)) cs)
  unfolding scan_from file_of joined
  rewrite_from [] k n e = (refl, tt)
  rewrite_from (c ∷ cs) k n e = go (ltb k limit) (node_line c) refl e (λ h. rewrite_from cs (suc k) n h)
    where
      Kept : Type 0
      Kept = (file_of (map (λ c. node_of (decode c)) (c ∷ cs)) ≡ joined (c ∷ cs)) × AllWritable (map (λ c. node_of (decode c)) (c ∷ cs))

      go : (t u : Bool) → node_line c ≡ u → cond (t && u) (scan_from node_line limit (suc k) cs) (Err k) ≡ Ok n
          → (scan_from node_line limit (suc k) cs ≡ Ok n → (file_of (map (λ c. node_of (decode c)) cs) ≡ joined cs) × AllWritable (map (λ c. node_of (decode c)) cs)) → Kept
      go true true f h ih = let r = ih h in (ap₂ (λ (a b : List ℕ). a ++ b) (rewrite_line c f) r.0, (read_writable c f, r.1))
      go true false f h ih = absurd (let z : ◌≡◌ {A = ℕ} 0 1 = cc in omega arith)
      go false u f h ih = absurd (let z : ◌≡◌ {A = ℕ} 0 1 = cc in omega arith)

-- ## The theorems, for the two files of node lines

abbrev pub OfNodes : File → Type 0
OfNodes file = (c : List ℕ) → form_of file c ≡ node_line c

pub master_of_nodes : OfNodes Master
unfolding form_of
master_of_nodes c = refl

pub view_of_nodes : OfNodes View
unfolding form_of
view_of_nodes c = refl

module _ (file : File) (of : OfNodes file) where
  forms : form_of file ≡ node_line
  forms = mathlib.Core.Path.fun_ext of

  -- a file written from good nodes scans as those nodes
  pub scan_written : (ns : List Line) → AllWritable ns → length ns ≤ limit_of file → scan file (file_of ns) ≡ Ok (length ns)
  unfolding scan
  scan_written ns g h = rw (forms, cut_file ns g) (scan_lines_of (limit_of file) 0 ns g (omega arith) ∙ ap Ok (let z : 0 + length ns ≡ length ns = omega arith in z))

  -- a good file written again is the same bytes
  pub rewrite_file : (s : List ℕ) (n : ℕ) → scan file s ≡ Ok n → file_of (nodes s) ≡ s
  unfolding scan nodes
  rewrite_file s n e = (rewrite_from (limit_of file) (cut s) 0 n (rw forms at e)).0 ∙ joined_cut s

  -- and its nodes are good
  pub nodes_writable : (s : List ℕ) (n : ℕ) → scan file s ≡ Ok n → AllWritable (nodes s)
  unfolding scan nodes
  nodes_writable s n e = (rewrite_from (limit_of file) (cut s) 0 n (rw forms at e)).1

pub nodes_written : (ns : List Line) → AllWritable ns → nodes (file_of ns) ≡ ns
unfolding nodes
nodes_written ns g = rw (cut_file ns g) (nodes_lines_of ns g)
