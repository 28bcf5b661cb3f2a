-- A line that can be written, said of its fields: depth and number are small, and one rule holds of kind, mark and text.
use Rattle.std.specs.Prelude.{◌≡◌, refl, Bool, true, ◌&&◌, List, [], ◌∷◌, ℕ, zero, suc, ◌+◌, ◌/◌, ◌≤◌, ◌<◌, leb, ltb, eqb, length, get_or}
use Rattle.std.proofs.Common.{arith, leb-true, le-leb, ltb-true, lt-ltb, eq-eqb}
use Rattle.lines.specs.Nodes.{Line, untouched_mark, all_of, kind_rule, node_form, no_line}
use Rattle.lines.specs.Writing.{bytes_of}
use Rattle.lines.specs.Theorems.Bools.{and_left, and_right, and_both}
use Rattle.lines.specs.Theorems.KindRules.{text_rule, rule_small}
use Rattle.lines.specs.Engine.Writes.{Bytes, Writable, AllWritable}

-- ## Texts

pub record Short (t : List ℕ) : Type 0 where
  pub few : length t ≤ 32
  pub bytes : Bytes t

abbrev pub is_byte : ℕ → Bool
is_byte b = ltb b 256

bytes_all : (t : List ℕ) → Bytes t → all_of is_byte t ≡ true
unfolding all_of
bytes_all [] g = refl
bytes_all (b ∷ t) g = and_both (ltb b 256) (all_of is_byte t) (lt-ltb b 256 g.0) (bytes_all t g.1)

all_bytes : (t : List ℕ) → all_of is_byte t ≡ true → Bytes t
unfolding all_of
all_bytes [] h = tt
all_bytes (b ∷ t) h = (ltb-true b 256 (and_left (ltb b 256) (all_of is_byte t) h), all_bytes t (and_right (ltb b 256) (all_of is_byte t) h))

unfoldable pub is_short : List ℕ → Bool
is_short t = leb (length t) 32 && all_of is_byte t

short_true : (t : List ℕ) → Short t → is_short t ≡ true
unfolding is_short
short_true t s = and_both (leb (length t) 32) (all_of is_byte t) (le-leb (length t) 32 s.few) (bytes_all t s.bytes)

true_short : (t : List ℕ) → is_short t ≡ true → Short t
unfolding is_short
true_short t h = record { few = leb-true (length t) 32 (and_left (leb (length t) 32) (all_of is_byte t) h); bytes = all_bytes t (and_right (leb (length t) 32) (all_of is_byte t) h) }

-- ## Lines

-- the rule of kind, mark and text together
unfoldable pub line_rule : ℕ → ℕ → List ℕ → Bool
line_rule kind mark text = kind_rule kind mark text && is_short text

pub record Fields (l : Line) : Type 0 where
  pub depth : l.depth < 256
  pub number : l.number < 0x10000
  pub rule : line_rule l.kind l.mark l.text ≡ true

pub rule_made : (kind mark : ℕ) (text : List ℕ) → kind_rule kind mark text ≡ true → Short text → line_rule kind mark text ≡ true
unfolding line_rule
rule_made kind mark text k s = and_both (kind_rule kind mark text) (is_short text) k (short_true text s)

pub rule_kind : (kind mark : ℕ) (text : List ℕ) → line_rule kind mark text ≡ true → kind_rule kind mark text ≡ true
unfolding line_rule
rule_kind kind mark text h = and_left (kind_rule kind mark text) (is_short text) h

pub rule_short : (kind mark : ℕ) (text : List ℕ) → line_rule kind mark text ≡ true → Short text
unfolding line_rule
rule_short kind mark text h = true_short text (and_right (kind_rule kind mark text) (is_short text) h)

pub fields_writable : (l : Line) → Fields l → Writable l
unfolding bytes_of node_form
fields_writable l f =
    let k = rule_kind l.kind l.mark l.text f.rule in
    let s = rule_short l.kind l.mark l.text f.rule in
    let small = rule_small l.kind l.mark l.text k in
    let n = f.number in
    let t = s.few in
    record {
      bytes = (f.depth, (small.0, (small.1, (omega arith, (omega arith, (omega arith, s.bytes))))));
      form = rw (le-leb 6 (length (bytes_of l)) (omega arith), eq-eqb (length (bytes_of l)) (6 + length l.text) (omega arith), le-leb (length l.text) 32 t, k);
    }

pub writable_fields : (l : Line) → Writable l → Fields l
unfolding bytes_of node_form
writable_fields l w =
    let b = w.bytes in
    let high : l.number / 256 < 256 = b.1.1.1.0 in
    let f = and_right (eqb (length (bytes_of l)) (6 + length l.text)) _ (and_right (leb 6 (length (bytes_of l))) _ w.form) in
    record {
      depth = b.0;
      number = omega arith;
      rule =
          rule_made l.kind l.mark l.text (and_right (leb (length l.text) 32) _ f)
          (record { few = leb-true (length l.text) 32 (and_left (leb (length l.text) 32) _ f); bytes = b.1.1.1.1.1.1 });
    }

-- ## Lists of lines

pub no_line_fields : Fields no_line
no_line_fields = record { depth = omega arith; number = omega arith; rule = rule_made 1 untouched_mark [] (text_rule []) (record { few = omega arith; bytes = tt }) }

-- every line, and the one that stands for those that are missing
pub fields_at : (ls : List Line) → AllWritable ls → (i : ℕ) → Fields (get_or ls i no_line)
fields_at [] g i = no_line_fields
fields_at (l ∷ ls) g zero = writable_fields l g.0
fields_at (l ∷ ls) g (suc i) = fields_at ls g.1 i

pub all_writable : (ls : List Line) → ((i : ℕ) → i < length ls → Fields (get_or ls i no_line)) → AllWritable ls
all_writable [] f = tt
all_writable (l ∷ ls) f = (fields_writable l (f 0 (omega arith)), all_writable ls (λ i h. f (suc i) (omega arith)))
