-- What is read at the place where a line begins is what the line says: nodes and entries alike.
use Rattle.std.proofs.Math.Path.{◌≡◌, refl, ap, ap₂}
use Rattle.std.proofs.Common.{sym, ◌∙◌, subst, not-suc-le-zero, le_of_suc-le-suc, length-drop, leb-true, eqb-true}
use Rattle.std.specs.Prelude.{Bool, ◌&&◌, ℕ, zero, suc, ◌+◌, ◌*◌, ◌-◌, ◌≤◌, ◌<◌, eqb, leb, ltb, get_or, drop, Option, None, Some, Result, Ok, Err}
use Rattle.std.proofs.Math.Bool.{true, false, cond}
use mathlib.Core.List.{List, [], ◌∷◌, map}
use native.Mathlib.Omega.{arith}
use Rattle.std.proofs.Math.ListN.{length, take}
use lib.Seq.{length-take-le, take-append-le, take-take, take_all, get_or-drop, ext_get_or}
use Rattle.lines.specs.declared.scan.File.{File}
use Rattle.lines.specs.declared.scan.File.TheVariants.{Program, Master, View}
use Rattle.lines.specs.declared.table.Shape.{Shape}
use Rattle.lines.specs.declared.table.Shape.TheVariants.{Nothing, Text, Tag, Slot}
use Rattle.lines.specs.Hex.{hex_value, decode, hex_digit, encode}
use Rattle.lines.specs.Lines.{cut, pairs_then_end, is_line}
use Rattle.lines.specs.Nodes.{node_form, node_line, node_of, nodes}
use Rattle.lines.specs.Entries.{text_form, operand_form, entry_form, entry_line, entry_of, entries, operand_shape}
use Rattle.lines.specs.Files.{form_of, limit_of, scan_from, scan}
use Rattle.lines.specs.Theorems.Bools.{never, and_left, and_right}
use Rattle.lines.proofs.Theorems.Pairs.{high_digit, low_digit, get_d_decode, pair_part, line_length_is}
use Rattle.lines.specs.Theorems.Cutting.{cut_at, line_inside, end_within, end_beyond, line_long, length_starts}
use Rattle.lines.specs.Engine.Starts.{pair_at, line_length, starts_from, starts, bytes_from, text_at, node_at, lines_of, operand_at, entry_at, entries_of, Scanned}

pub length_bytes : (s : List ℕ) (p k : ℕ) → length (bytes_from s p k) ≡ k
unfolding bytes_from
length_bytes s p zero = refl
length_bytes s p (suc k) = ap suc (length_bytes s (p + 2) k)

get_d_bytes : (s : List ℕ) (p k j : ℕ) → j < k → get_or (bytes_from s p k) j 0 ≡ pair_at s (p + 2 * j)
unfolding bytes_from
get_d_bytes s p zero j h = absurd (not-suc-le-zero h)
get_d_bytes s p (suc k) zero h = ap (pair_at s) (omega arith)
get_d_bytes s p (suc k) (suc j) h = get_d_bytes s (p + 2) k j (le_of_suc-le-suc h) ∙ ap (pair_at s) (omega arith)

pub length_text : (s : List ℕ) (p : ℕ) → length (text_at s p) ≡ pair_at s p
unfolding text_at
length_text s p = length_bytes s (p + 2) (pair_at s p)

-- byte j of a text is the pair j behind its length
pub byte_of_text : (s : List ℕ) (p j : ℕ) → j < length (text_at s p) → get_or (text_at s p) j 0 ≡ pair_at s (p + 2 + 2 * j)
unfolding text_at
byte_of_text s p j h = get_d_bytes s (p + 2) (pair_at s p) j (omega (arith, length_text s p))

-- and its digits are those that stand there
get_d_digits : (s : List ℕ) (p k j : ℕ) → j < 2 * k → get_or (encode (bytes_from s p k)) j 0 ≡ hex_digit (hex_value (get_or s (p + j) 0))
unfolding bytes_from encode pair_at
get_d_digits s p zero j h = absurd (not-suc-le-zero h)
get_d_digits s p (suc k) zero h = ap hex_digit (high_digit s p) ∙ ap (λ (i : ℕ). hex_digit (hex_value (get_or s i 0))) (omega arith)
get_d_digits s p (suc k) (suc zero) h = ap hex_digit (low_digit s p) ∙ ap (λ (i : ℕ). hex_digit (hex_value (get_or s i 0))) (omega arith)
get_d_digits s p (suc k) (suc (suc j)) h =
    get_d_digits s (p + 2) k j (omega arith) ∙ ap (λ (i : ℕ). hex_digit (hex_value (get_or s i 0))) (omega arith)

pub digit_of_text : (s : List ℕ) (p j : ℕ) → j < 2 * length (text_at s p) → get_or (encode (text_at s p)) j 0 ≡ hex_digit (hex_value (get_or s (p + 2 + j) 0))
unfolding text_at
digit_of_text s p j h = get_d_digits s (p + 2) (pair_at s p) j (omega (arith, length_text s p))

-- ## One line

-- c is the line of s that begins at place p
module _ (s : List ℕ) (p m : ℕ) (fits : p + m ≤ length s) (pairs : pairs_then_end (take m (drop p s)) ≡ true) where
  long : m ≡ 1 + 2 * length (decode (take m (drop p s)))
  long = sym (length-take-le m (drop p s) (omega (arith, length-drop p s))) ∙ line_length_is (take m (drop p s)) pairs

  pub byte_here : (k : ℕ) → k < length (decode (take m (drop p s))) → pair_at s (p + 2 * k) ≡ get_or (decode (take m (drop p s))) k 0
  byte_here k h =
      sym (get_d_decode (take m (drop p s)) k h ∙ pair_part s p m (2 * k) (omega (arith, long)))

  -- its last bytes, from byte k on
  pub bytes_here : (k n : ℕ) → k + n ≡ length (decode (take m (drop p s))) → bytes_from s (p + 2 * k) n ≡ drop k (decode (take m (drop p s)))
  bytes_here k n e =
      let b = decode (take m (drop p s)) in
      ext_get_or 0 _ _ (omega (arith, length_bytes s (p + 2 * k) n, length-drop k b))
      (λ i h.
      let h' : i < n = omega (arith, length_bytes s (p + 2 * k) n) in
      get_d_bytes s (p + 2 * k) n i h'
      ∙ (ap (pair_at s) (let z : p + 2 * k + 2 * i ≡ p + 2 * (k + i) = omega arith in z)
      ∙ (byte_here (k + i) (omega arith) ∙ sym (get_or-drop k b i 0))))

  -- the text whose length is byte k and whose bytes are the rest
  pub text_here : (k : ℕ) → k < length (decode (take m (drop p s))) → length (decode (take m (drop p s))) ≡ (k + 1) + get_or (decode (take m (drop p s))) k 0
      → text_at s (p + 2 * k) ≡ drop (k + 1) (decode (take m (drop p s)))
  unfolding text_at
  text_here k h e =
      rw (byte_here k h)
      (ap (λ (q : ℕ). bytes_from s q (get_or (decode (take m (drop p s))) k 0)) (let z : p + 2 * k + 2 ≡ p + 2 * (k + 1) = omega arith in z)
      ∙ bytes_here (k + 1) (get_or (decode (take m (drop p s))) k 0) (sym e))

-- ## A node's line, and an entry's

node_here : (s : List ℕ) (p m : ℕ) → p + m ≤ length s → node_line (take m (drop p s)) ≡ true → node_at s p ≡ node_of (decode (take m (drop p s)))
unfolding node_line is_line node_form node_at
node_here s p m fits good =
    let c = take m (drop p s) in
    let b = decode c in
    let pairs = and_left (pairs_then_end c) _ (and_left (is_line c) (node_form b) good) in
    let form = and_right (is_line c) (node_form b) good in
    let six = leb-true 6 (length b) (and_left (leb 6 (length b)) _ form) in
    let exact = eqb-true (length b) (6 + get_or b 5 0) (and_left (eqb (length b) (6 + get_or b 5 0)) _ (and_right (leb 6 (length b)) _ form)) in
    let b0 : pair_at s p ≡ get_or b 0 0 = ap (pair_at s) (let z : p ≡ p + 2 * 0 = omega arith in z) ∙ byte_here s p m fits pairs 0 (omega arith) in
    let b1 = byte_here s p m fits pairs 1 (omega arith) in
    let b2 = byte_here s p m fits pairs 2 (omega arith) in
    let b3 = byte_here s p m fits pairs 3 (omega arith) in
    let b4 = byte_here s p m fits pairs 4 (omega arith) in
    let t = text_here s p m fits pairs 5 (omega arith) exact in
    λ i. record { depth = b0 i; kind = b1 i; mark = b2 i; number = 256 * b3 i + b4 i; text = t i }

-- a list of one byte, of none, and of a length and its text
list_zero : (b : List ℕ) → length b ≡ 0 → ◌≡◌ {A = List ℕ} [] b
list_zero [] e = refl
list_zero (x ∷ b) e = absurd (omega arith)

list_one : (b : List ℕ) → length b ≡ 1 → get_or b 0 0 ∷ [] ≡ b
list_one [] e = absurd (omega arith)
list_one (x ∷ []) e = refl
list_one (x ∷ y ∷ b) e = absurd (omega arith)

list_more : (b : List ℕ) → 1 ≤ length b → get_or b 0 0 ∷ drop 1 b ≡ b
list_more [] e = absurd (omega arith)
list_more (x ∷ b) e = refl

-- an operand that has its shape's form is read as it is
operand_here : (shape : Option Shape) (s : List ℕ) (p m : ℕ) → p + m ≤ length s → pairs_then_end (take m (drop p s)) ≡ true
    → 1 ≤ length (decode (take m (drop p s))) → operand_form shape (drop 1 (decode (take m (drop p s)))) ≡ true
    → operand_at shape s (p + 2) ≡ drop 1 (decode (take m (drop p s)))
unfolding operand_form operand_at text_form
operand_here shape s p m fits pairs some form = go shape form
  where
    b : List ℕ
    b = decode (take m (drop p s))

    less : length (drop 1 b) ≡ length b - 1
    less = length-drop 1 b

    text : text_form (drop 1 b) ≡ true → pair_at s (p + 2) ∷ text_at s (p + 2) ≡ drop 1 b
    text e =
        let one = leb-true 1 (length (drop 1 b)) (and_left (leb 1 (length (drop 1 b))) _ e) in
        let q = eqb-true (length (drop 1 b)) (1 + get_or (drop 1 b) 0 0) (and_right (leb (get_or (drop 1 b) 0 0) 32) _ (and_right (leb 1 (length (drop 1 b))) _ e)) in
        let g : get_or (drop 1 b) 0 0 ≡ get_or b 1 0 = get_or-drop 1 b 0 0 in
        let x : pair_at s (p + 2) ≡ get_or (drop 1 b) 0 0 = byte_here s p m fits pairs 1 (omega (arith, less)) ∙ sym g in
        let t : text_at s (p + 2) ≡ drop 1 (drop 1 b) = text_here s p m fits pairs 1 (omega (arith, less)) (omega (arith, less)) ∙ sym (lib.Seq.drop-drop 1 1 b) in
        ap₂ (λ (y : ℕ) (r : List ℕ). y ∷ r) x t ∙ list_more (drop 1 b) one

    go : (shape : Option Shape) → operand_form shape (drop 1 b) ≡ true → operand_at shape s (p + 2) ≡ drop 1 b
    go (Some Nothing) e = list_zero (drop 1 b) (eqb-true _ 0 e)
    go (Some Text) e = text e
    go (Some Tag) e = text (and_left (text_form (drop 1 b)) _ e)
    go (Some Slot) e =
        let one = eqb-true (length (drop 1 b)) 1 e in
        let g : get_or (drop 1 b) 0 0 ≡ get_or b 1 0 = get_or-drop 1 b 0 0 in
        ap (λ (y : ℕ). y ∷ []) (byte_here s p m fits pairs 1 (omega (arith, less)) ∙ sym g) ∙ list_one (drop 1 b) one
    go None e = never e

entry_here : (s : List ℕ) (p m : ℕ) → p + m ≤ length s → entry_line (take m (drop p s)) ≡ true → entry_at s p ≡ entry_of (decode (take m (drop p s)))
unfolding entry_line is_line entry_form entry_at
entry_here s p m fits good =
    let c = take m (drop p s) in
    let b = decode c in
    let pairs = and_left (pairs_then_end c) _ (and_left (is_line c) (entry_form b) good) in
    let some = leb-true 1 (length b) (and_right (pairs_then_end c) _ (and_left (is_line c) (entry_form b) good)) in
    let b0 : pair_at s p ≡ get_or b 0 0 = ap (pair_at s) (let z : p ≡ p + 2 * 0 = omega arith in z) ∙ byte_here s p m fits pairs 0 (omega arith) in
    let form : operand_form (operand_shape (get_or b 0 0)) (drop 1 b) ≡ true = and_right (is_line c) (entry_form b) good in
    let o : operand_at (operand_shape (pair_at s p)) s (p + 2) ≡ drop 1 b = rw b0 (operand_here (operand_shape (get_or b 0 0)) s p m fits pairs some form) in
    λ i. record { operation = b0 i; operand = o i }

-- ## A file

-- whatever lines say, read at the places where they begin, if each line has the form
module _ {A : Type 0} (form : List ℕ → Bool) (limit : ℕ) (said : List ℕ → A) (read : List ℕ → ℕ → A)
    (here : (s : List ℕ) (p m : ℕ) → p + m ≤ length s → form (take m (drop p s)) ≡ true → read s p ≡ said (decode (take m (drop p s)))) where
  reads_from : (s : List ℕ) (cs : List (List ℕ)) (at n k : ℕ) → cut (drop at s) ≡ cs → scan_from form limit n cs ≡ Ok k
      → map (read s) (starts_from at cs) ≡ map (λ c. said (decode c)) cs
  unfolding scan_from starts_from
  reads_from s [] at n k e q = refl
  reads_from s (c ∷ cs) at n k e q =
      let inside = line_inside s at (subst (λ (l : List (List ℕ)). 0 < length l) (sym e) (omega arith)) in
      let end = at + line_length (drop at s) in
      let u = cut_at s at inside end refl in
      let first : take (end - at) (drop at s) ≡ c = cc in
      let rest : cut (drop end s) ≡ cs = cc in
      let next : at + length c ≡ end = omega (arith, ap length first, line_long s at inside end refl, end_beyond s at inside end refl) in
      go (ltb n limit && form c) refl q (end - at) first (omega (arith, end_within s at inside end refl, end_beyond s at inside end refl))
      (λ r. rw next (reads_from s cs end (suc n) k rest r))
    where
      go : (t : Bool) → (ltb n limit && form c) ≡ t → cond t (scan_from form limit (suc n) cs) (Err n) ≡ Ok k
          → (m : ℕ) → take m (drop at s) ≡ c → at + m ≤ length s
          → (scan_from form limit (suc n) cs ≡ Ok k → map (read s) (starts_from (at + length c) cs) ≡ map (λ c. said (decode c)) cs)
          → read s at ∷ map (read s) (starts_from (at + length c) cs) ≡ said (decode c) ∷ map (λ c. said (decode c)) cs
      go true f r m first fits ih =
          ap₂ (λ (x : A) (l : List A). x ∷ l)
          (here s at m fits (rw first (and_right (ltb n limit) (form c) f)) ∙ ap (λ (l : List ℕ). said (decode l)) first)
          (ih r)
      go false f r m first fits ih = absurd (let z : ◌≡◌ {A = ℕ} 0 1 = cc in omega arith)

-- ## The theorems

pub reads_master : (s : List ℕ) (n : ℕ) → scan Master s ≡ Ok n → lines_of s (starts s) ≡ nodes s
unfolding scan form_of starts nodes
reads_master s n e = reads_from node_line (limit_of Master) node_of node_at node_here s (cut s) 0 0 n refl e

pub reads_view : (s : List ℕ) (n : ℕ) → scan View s ≡ Ok n → lines_of s (starts s) ≡ nodes s
unfolding scan form_of starts nodes
reads_view s n e = reads_from node_line (limit_of View) node_of node_at node_here s (cut s) 0 0 n refl e

pub reads_program : (s : List ℕ) (n : ℕ) → scan Program s ≡ Ok n → entries_of s (starts s) ≡ entries s
unfolding scan form_of starts entries
reads_program s n e = reads_from entry_line (limit_of Program) entry_of entry_at entry_here s (cut s) 0 0 n refl e

-- a whole scan counts all lines
scan_counts : (form : List ℕ → Bool) (limit k : ℕ) (cs : List (List ℕ)) (n : ℕ) → scan_from form limit k cs ≡ Ok n → n ≡ k + length cs
unfolding scan_from
scan_counts form limit k [] n e = let z : k ≡ n = cc in omega arith
scan_counts form limit k (c ∷ cs) n e = go (ltb k limit && form c) e (λ h. scan_counts form limit (suc k) cs n h)
  where
    go : (t : Bool) → cond t (scan_from form limit (suc k) cs) (Err k) ≡ Ok n → (scan_from form limit (suc k) cs ≡ Ok n → n ≡ suc k + length cs) → n ≡ k + suc (length cs)
    go true h ih = let z = ih h in omega arith
    go false h ih = absurd (let z : ◌≡◌ {A = ℕ} 0 1 = cc in omega arith)

pub scan_count : (file : File) (s : List ℕ) (n : ℕ) → scan file s ≡ Ok n → n ≡ length (cut s)
unfolding scan
scan_count file s n e = let z = scan_counts (form_of file) (limit_of file) 0 (cut s) n e in omega arith

-- what the scanner noted are the places where the lines begin
pub noted_starts : (file : File) (s before noted : List ℕ) (n : ℕ) → Scanned file s before noted (Ok n) → take n noted ≡ starts s
unfolding starts
noted_starts file s before noted n r =
    let c = scan_count file s n (sym r.answer) in
    let l = length_starts 0 (cut s) in
    rw r.places (take-append-le n (take n (starts s)) (drop n before) (omega (arith, length-take-le n (starts s) (omega arith)))
    ∙ (take-take n n (starts s) (omega arith) ∙ take_all n (starts s) (omega arith)))

-- a scan that took all lines
pub scanned_whole : {file : File} {s before noted : List ℕ} {r : Result ℕ ℕ} → Scanned file s before noted r → (n : ℕ) → r ≡ Ok n → Scanned file s before noted (Ok n)
scanned_whole x n e = rw e at x

-- what the lines say, by the places that were noted
pub said_lines : {A : Type 0} {file : File} (said : List ℕ → List A) (read : List ℕ → ℕ → A)
    → ((s : List ℕ) (n : ℕ) → scan file s ≡ Ok n → map (read s) (starts s) ≡ said s)
    → {s before noted : List ℕ} {n : ℕ} → Scanned file s before noted (Ok n) → said s ≡ map (read s) (take n noted)
said_lines {file = file} said read reads {s} {before} {noted} {n} x =
    sym (reads s n (sym x.answer)) ∙ ap (map (read s)) (sym (noted_starts file s before noted n x))
