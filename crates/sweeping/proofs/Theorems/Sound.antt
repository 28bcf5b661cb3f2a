-- The swept master is a sound one: it keeps the bounds and the form, and is no longer than it was.
use Rattle.std.specs.Prelude.{◌≡◌, refl, Bool, true, false, cond, ◌||◌, List, [], ◌∷◌, ℕ, suc, ◌+◌, ◌≤◌, ◌<◌, length, None, Option, Some}
use Rattle.std.proofs.Common.{arith, le-leb, ltb-false, eq-eqb}
use Rattle.lines.specs.Nodes.{Line, untouched_mark}
use Rattle.lines.specs.Masters.{depth_after, placed, bounds_from, master_bounds}
use Rattle.lines.specs.Engine.Writes.{Writable, AllWritable}
use Rattle.lines.specs.Theorems.Bools.{never}
use Rattle.lines.specs.Theorems.MasterRules.{bounds_first}
use Rattle.lines.specs.Theorems.KindRules.{rule_without_mark}
use Rattle.lines.specs.Theorems.LineRules.{rule_made, rule_kind, rule_short, fields_writable, writable_fields}
use Rattle.sweeping.specs.Sweeping.{is_under, is_deleted, goes, behind, removed_under, removed, kept, anew, numbered_anew, swept}
use Rattle.sweeping.specs.Theorems.Counting.{swept_count, length_anew}

pub swept_few : (ls : List Line) → length (swept ls) ≤ length ls
swept_few ls = omega (arith, swept_count ls)

-- ## Bounds: a line that stays has kept what it stands under

-- how deep the next line may be, before and after: behind a deleted line as deep as that was
abbrev Room : Option ℕ → ℕ → ℕ → Type 0
Room None most most' = most ≤ most'
Room (Some a) most most' = a ≤ most'

room_under : (above : Option ℕ) (most most' n depth : ℕ) → is_under above depth ≡ true → Room above most most' → Room above n most'
unfolding is_under
room_under None most most' n depth u r = never u
room_under (Some a) most most' n depth u r = r

room_depth : (above : Option ℕ) (most most' depth : ℕ) → is_under above depth ≡ false → Room above most most' → depth ≤ most → depth ≤ most'
unfolding is_under
room_depth None most most' depth u r h = omega arith
room_depth (Some a) most most' depth u r h = omega (arith, ltb-false a depth u)

placed_here : (most k : ℕ) (l : Line) (ms : List Line) → l.depth ≤ most → l.depth ≤ 7 → bounds_from (depth_after l) (suc k) (numbered_anew (suc k) ms) ≡ None
    → bounds_from most k (numbered_anew k (l ∷ ms)) ≡ None
unfolding bounds_from placed numbered_anew anew depth_after
placed_here most k l ms d s b = rw (le-leb l.depth most d, le-leb l.depth 7 s, eq-eqb k k refl) b

kept_bounds : (above : Option ℕ) (most most' k k' : ℕ) (ls : List Line) → Room above most most' → bounds_from most k ls ≡ None
    → bounds_from most' k' (numbered_anew k' (kept (removed_under above ls) ls)) ≡ None
unfolding bounds_from removed_under kept numbered_anew goes behind
kept_bounds above most most' k k' [] r h = refl
kept_bounds above most most' k k' (l ∷ ls) r h =
    let p = bounds_first most k l ls h in
    go (is_under above l.depth) (is_deleted l)
    (λ u. kept_bounds above (depth_after l) most' (suc k) k' ls (room_under above most most' (depth_after l) l.depth u r) p.3)
    (λ u. kept_bounds (Some l.depth) (depth_after l) most' (suc k) k' ls (room_depth above most most' l.depth u r p.0) p.3)
    (λ u.
    placed_here most' k' l (kept (removed_under None ls) ls) (room_depth above most most' l.depth u r p.0) p.1
    (kept_bounds None (depth_after l) (depth_after l) (suc k) (suc k') ls (omega arith) p.3))
  where
    Good : List Line → Type 0
    Good ms = bounds_from most' k' (numbered_anew k' ms) ≡ None

    rest : Option ℕ → List Line
    rest a = kept (removed_under a ls) ls

    go : (t u : Bool) → (t ≡ true → Good (rest above)) → (t ≡ false → Good (rest (Some l.depth))) → (t ≡ false → Good (l ∷ rest None))
        → Good (cond (t || u) (rest (cond t above (cond u (Some l.depth) None))) (l ∷ rest (cond t above (cond u (Some l.depth) None))))
    go true u f g h = f refl
    go false true f g h = g refl
    go false false f g h = h refl

pub swept_bounds : (ls : List Line) → master_bounds ls ≡ None → master_bounds (swept ls) ≡ None
unfolding master_bounds swept removed
swept_bounds ls h = kept_bounds None 0 0 0 0 ls (omega arith) h

-- ## Form

anew_writable : (k : ℕ) (l : Line) → k < 0x10000 → Writable l → Writable (anew k l)
unfolding anew
anew_writable k l small w =
    let f = writable_fields l w in
    fields_writable (anew k l)
    (record {
      depth = f.depth;
      number = small;
      rule = rule_made l.kind untouched_mark l.text (rule_without_mark _ _ _ (rule_kind _ _ _ f.rule)) (rule_short _ _ _ f.rule);
    })

all_anew : (k : ℕ) (ls : List Line) → k + length ls ≤ 0x10000 → AllWritable ls → AllWritable (numbered_anew k ls)
unfolding numbered_anew
all_anew k [] h w = tt
all_anew k (l ∷ ls) h w = (anew_writable k l (omega arith) w.0, all_anew (suc k) ls (omega arith) w.1)

kept_writable : (gs : List Bool) (ls : List Line) → AllWritable ls → AllWritable (kept gs ls)
unfolding kept
kept_writable [] ls w = tt
kept_writable (g ∷ gs) [] w = tt
kept_writable (true ∷ gs) (l ∷ ls) w = kept_writable gs ls w.1
kept_writable (false ∷ gs) (l ∷ ls) w = (w.0, kept_writable gs ls w.1)

pub swept_writable : (ls : List Line) → AllWritable ls → length ls ≤ 128 → AllWritable (swept ls)
unfolding swept
swept_writable ls w few =
    let left = kept (removed ls) ls in
    all_anew 0 left (omega (arith, swept_few ls, length_anew 0 left)) (kept_writable (removed ls) ls w)
