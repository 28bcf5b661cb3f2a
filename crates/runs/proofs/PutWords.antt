-- Standings in an extent of words, each of which names its text: what an extent holds when words are put into the slice, and how extents join.
use mathlib.Core.Path.{◌≡◌, refl, sym, ap, ap₂, ◌∙◌, subst}
use mathlib.Core.List.{List, [], ◌∷◌, ◌++◌, map}
use mathlib.Core.Logic.{◌⊎◌}
use Prim.Native.Nat.{ℕ, zero, suc, ◌+◌, ◌≤◌, ◌<◌}
use native.Mathlib.Omega.{arith}
use lib.ListN.{length, get_or, set, take, drop, replicate, length-replicate}
use lib.Seq.{take_at, drop_at, drop-cons}
use Rattle.lines.specs.Writing.{put_at}
use Rattle.lines.specs.Theorems.PutAt.{put_frame, put_part, put_none, put_more}
use Rattle.values.specs.Values.{Value}
use Rattle.values.specs.Standings.{Standing, untouched, locked, all_over, merged}
use Rattle.values.specs.Engine.Words.{part, standing_of, standings_at, Named, AllNamed, merged_words}
use Rattle.values.specs.Theorems.Extents.{length_part, part_join, frame_part, put_other}
use Rattle.values.proofs.Theorems.MergeLaws.{merge_comm}
use Rattle.values.proofs.Theorems.WordLaws.{standings_join, length_standings, merged_words_standings, merged_length}

-- ## Words that name their texts

module _ (texts : ℕ → List ℕ) where
  named_join : (k l : List ℕ) → AllNamed texts k → AllNamed texts l → AllNamed texts (k ++ l)
  named_join [] l p q = q
  named_join (x ∷ k) l p q = (p.0, named_join k l p.1 q)

  named_split : (k l : List ℕ) → AllNamed texts (k ++ l) → AllNamed texts k × AllNamed texts l
  named_split [] l p = (tt, p)
  named_split (x ∷ k) l p = let r = named_split k l p.1 in ((p.0, r.0), r.1)

  -- words below 4 name no text
  named_low : (n x : ℕ) → x < 4 → AllNamed texts (replicate n x)
  unfolding Named
  named_low zero x h = tt
  named_low (suc n) x h = ((λ i l. absurd (omega arith)), named_low n x h)

  filled_over : (x : ℕ) (v : Value) → map (standing_of texts) (replicate (length v) x) ≡ all_over (standing_of texts x) v
  unfolding all_over
  filled_over x [] = refl
  filled_over x (y ∷ v) = ap (λ (ss : List Standing). standing_of texts x ∷ ss) (filled_over x v)

pub merged_comm : (ss ts : List Standing) → merged ss ts ≡ merged ts ss
unfolding merged
merged_comm [] [] = refl
merged_comm [] (t ∷ ts) = refl
merged_comm (s ∷ ss) [] = refl
merged_comm (s ∷ ss) (t ∷ ts) = ap₂ (λ (x : Standing) (xs : List Standing). x ∷ xs) (merge_comm s t) (merged_comm ss ts)

-- ## An extent

pub record Holds (texts : ℕ → List ℕ) (w : List ℕ) (start len : ℕ) (ss : List Standing) : Type 0 where
  pub says : standings_at texts w start len ≡ ss
  pub named : AllNamed texts (part w start len)

module _ {texts : ℕ → List ℕ} where
  pub holds_length : {w : List ℕ} {start len : ℕ} {ss : List Standing} → Holds texts w start len ss → start + len ≤ length w → length ss ≡ len
  holds_length {w} {start} {len} {ss} h fits = ap length (sym h.says) ∙ length_standings texts w start len fits

  pub holds_same : {w w' : List ℕ} {start start' len : ℕ} {ss : List Standing} → part w' start' len ≡ part w start len → Holds texts w start len ss → Holds texts w' start' len ss
  unfolding standings_at
  holds_same {w} {w'} {start} {start'} {len} {ss} e h =
      record { says = ap (map (standing_of texts)) e ∙ h.says; named = subst (AllNamed texts) (sym e) h.named }

  pub holds_frame : {w w' : List ℕ} (top : ℕ) {start len : ℕ} {ss : List Standing} → take top w' ≡ take top w → start + len ≤ top → Holds texts w start len ss
      → Holds texts w' start len ss
  holds_frame {w} {w'} top {start} {len} f below h = holds_same (frame_part w w' top start len f below) h

  pub holds_join : {w : List ℕ} {start a b n : ℕ} {ss ts : List Standing} → a + b ≡ n → Holds texts w start a ss → Holds texts w (start + a) b ts → Holds texts w start n (ss ++ ts)
  holds_join {w} {start} {a} {b} {n} {ss} {ts} e g h =
      subst (λ (k : ℕ). Holds texts w start k (ss ++ ts)) e
      (record {
        says = standings_join texts w start a b ∙ ap₂ (λ (x y : List Standing). x ++ y) g.says h.says;
        named = subst (AllNamed texts) (sym (part_join w start a b)) (named_join texts (part w start a) (part w (start + a) b) g.named h.named);
      })

  pub holds_cut : {w : List ℕ} {start a b n : ℕ} {ss : List Standing} → n ≡ a + b → start + n ≤ length w → Holds texts w start n ss
      → Holds texts w start a (take a ss) × Holds texts w (start + a) b (drop a ss)
  holds_cut {w} {start} {a} {b} {n} {ss} q fits h =
      let l = length_standings texts w start a (omega arith) in
      let e : standings_at texts w start a ++ standings_at texts w (start + a) b ≡ ss = sym (standings_join texts w start a b) ∙ (ap (standings_at texts w start) (sym q) ∙ h.says) in
      let m : AllNamed texts (part w start (a + b)) = subst (λ (k : ℕ). AllNamed texts (part w start k)) q h.named in
      let s = named_split texts (part w start a) (part w (start + a) b) (subst (AllNamed texts) (part_join w start a b) m) in (
        record { says = sym (take_at (standings_at texts w start a) (standings_at texts w (start + a) b) a l) ∙ ap (take a) e; named = s.0 },
        record { says = sym (drop_at (standings_at texts w start a) (standings_at texts w (start + a) b) a l) ∙ ap (drop a) e; named = s.1 },
      )

  -- ## Words put into a slice

  holds_put : (w : List ℕ) {w' : List ℕ} {to len : ℕ} (new : List ℕ) {ss : List Standing}
      → w' ≡ put_at w to new → length new ≡ len → to + len ≤ length w → map (standing_of texts) new ≡ ss
      → AllNamed texts new → Holds texts w' to len ss
  unfolding standings_at
  holds_put w {w'} {to} {len} new p l fits e n =
      let q : part w' to len ≡ new = ap₂ (λ (x : List ℕ) (k : ℕ). part x to k) p (sym l) ∙ put_part w to new (omega arith) in
      record { says = ap (map (standing_of texts)) q ∙ e; named = subst (AllNamed texts) (sym q) n }

  pub holds_copied : {w₀ : List ℕ} (w : List ℕ) {w' : List ℕ} {from to len : ℕ} {ss : List Standing}
      → w' ≡ put_at w to (part w₀ from len) → from + len ≤ length w₀ → to + len ≤ length w
      → Holds texts w₀ from len ss → Holds texts w' to len ss
  unfolding standings_at
  holds_copied {w₀} w {w'} {from} {to} {len} p fits₀ fits h = holds_put w (part w₀ from len) p (length_part w₀ from len fits₀) fits h.says h.named

  holds_filled : (x : ℕ) (v : Value) (w : List ℕ) {w' : List ℕ} {to len : ℕ} → x < 4 → w' ≡ put_at w to (replicate len x) → length v ≡ len → to + len ≤ length w
      → Holds texts w' to len (all_over (standing_of texts x) v)
  holds_filled x v w {w'} {to} {len} low p l fits =
      holds_put w (replicate len x) p (length-replicate len x) fits
      (ap (λ (n : ℕ). map (standing_of texts) (replicate n x)) (sym l) ∙ filled_over texts x v) (named_low texts len x low)

  pub holds_untouched : (v : Value) (w : List ℕ) {w' : List ℕ} {to len : ℕ} → w' ≡ put_at w to (replicate len 0)
      → length v ≡ len → to + len ≤ length w → Holds texts w' to len (all_over untouched v)
  unfolding standing_of
  holds_untouched v w = holds_filled 0 v w (omega arith)

  pub holds_locked : (v : Value) (w : List ℕ) {w' : List ℕ} {to len : ℕ} → w' ≡ put_at w to (replicate len 1)
      → length v ≡ len → to + len ≤ length w → Holds texts w' to len (all_over locked v)
  unfolding standing_of
  holds_locked v w = holds_filled 1 v w (omega arith)

  pub holds_merged : {a b : List ℕ} (w : List ℕ) {w' : List ℕ} {to start view len : ℕ} {ss ts : List Standing} → w' ≡ put_at w to (merged_words (part a start len) (part b view len))
      → start + len ≤ length a → view + len ≤ length b → to + len ≤ length w → Holds texts a start len ss → Holds texts b view len ts → Holds texts w' to len (merged ss ts)
  unfolding standings_at
  holds_merged {a} {b} w {w'} {to} {start} {view} {len} {ss} {ts} p la lb fits g h =
      let pa = length_part a start len la in
      let pb = length_part b view len lb in
      let m = merged_words_standings texts (part a start len) (part b view len) (pa ∙ sym pb) g.named h.named in
      holds_put w (merged_words (part a start len) (part b view len)) p
      (merged_length (part a start len) (part b view len) (pa ∙ sym pb) ∙ pa) fits (m.0 ∙ ap₂ merged g.says h.says) m.1

  -- what stands before them or behind them
  pub holds_other : {w w' : List ℕ} {to : ℕ} (new : List ℕ) {start len : ℕ} {ss : List Standing}
      → w' ≡ put_at w to new → to + length new ≤ length w → (start + len ≤ to) ⊎ (to + length new ≤ start)
      → Holds texts w start len ss → Holds texts w' start len ss
  holds_other {w} {w'} {to} new {start} {len} p fits side h = holds_same (ap (λ (l : List ℕ). part l start len) p ∙ put_other w to new fits start len side) h

pub kept_below : (w : List ℕ) {w' : List ℕ} (to : ℕ) (new : List ℕ) → w' ≡ put_at w to new → to + length new ≤ length w → take to w' ≡ take to w
kept_below w {w'} to new p fits = ap (take to) p ∙ put_frame w to new (omega arith)

-- ## One word

pub put_word : (w : List ℕ) (to x : ℕ) → to < length w → set w to x ≡ put_at w to (x ∷ [])
put_word w to x h =
    let z : to ≡ to + 0 = omega arith in
    ap (λ (k : ℕ). set w k x) z ∙ put_more w to (x ∷ []) 0 (omega arith) (omega arith) (put_none w to) refl

pub copied_word : (w : List ℕ) (to from : ℕ) → to < length w → from < length w → set w to (get_or w from 0) ≡ put_at w to (part w from 1)
copied_word w to from h k = put_word w to (get_or w from 0) h ∙ ap (put_at w to) (sym (rw (drop-cons w from 0 k)))
