-- Where the nodes of a shown value come from: from the source, from the slots, or from an 03 or 04 of the program.
use Rattle.std.specs.Prelude.{◌≡◌, Bool, cond, ℕ, suc, ◌+◌, eqb, length, get_or}
use Rattle.std.proofs.Common.{sym, subst}
use Rattle.std.proofs.Math.Bool.{true, false}
use mathlib.Core.List.{List, [], ◌∷◌, ◌++◌, map}
use Rattle.lines.specs.Entries.{Entry, text_of}
use Rattle.values.specs.Values.{Origin, program, Node, Value, Lookup, lowered, raised, under, onward, items}
use Rattle.values.specs.Theorems.Items.{under_onward, by_items}
use Rattle.runs.specs.declared.stop.Stop.{Stop}
use Rattle.runs.specs.Results.{Result, gives}
use Rattle.runs.specs.Programs.{Transformation, source, nothing, text, tag, slot, contents, within, and_then, beside, each, choose, bind}
use Rattle.runs.specs.Reading.{no_entry}
use Rattle.runs.specs.Showing.{Single, Slots, value_in, Shown, shown, one_element, in_turn, show, test}
use Rattle.runs.specs.Theorems.Combinators.{Run, Asking, contents_run, within_run, then_run, branch_run, choose_run, bound}
use Rattle.runs.specs.Theorems.Inversion.{on_gives, on_bind, on_element, on_bounded, on_turn}
use Rattle.runs.specs.Engine.Trees.{Stands}

module _ (P : Origin → Type 0) where
  -- ## Every node of a value

  abbrev pub All : Value → Type 0
  All [] = Unit {0}
  All (x ∷ v) = P x.origin × All v

  all_append : (v w : Value) → All v → All w → All (v ++ w)
  all_append [] w p q = q
  all_append (x ∷ v) w p q = (p.0, all_append v w p.1 q)

  all_cut : (v w : Value) → All (v ++ w) → All v × All w
  all_cut [] w p = (tt, p)
  all_cut (x ∷ v) w p = let r = all_cut v w p.1 in ((p.0, r.0), r.1)

  all_lowered : (v : Value) → All v → All (lowered v)
  unfolding lowered
  all_lowered [] p = tt
  all_lowered (x ∷ v) p = (p.0, all_lowered v p.1)

  all_raised : (v : Value) → All v → All (raised v)
  unfolding raised
  all_raised [] p = tt
  all_raised (x ∷ v) p = (p.0, all_raised v p.1)

  abbrev AllIn : List Value → Type 0
  AllIn [] = Unit {0}
  AllIn (v ∷ vs) = All v × AllIn vs

  all_items : (v : Value) → All v → AllIn (items v)
  all_items v g = by_items (λ w is. All w → AllIn is) (λ _. tt) step v g
    where
      step : (x : Node) (v : Value) → (All (onward v) → AllIn (items (onward v))) → All (x ∷ v) → All (x ∷ under v) × AllIn (items (onward v))
      step x v ih g =
          let r = all_cut (under v) (onward v) (subst All (sym (under_onward v)) g.1) in
          ((g.0, r.0), ih r.1)

  -- ## Runs

  abbrev AllSlots : Slots → Type 0
  AllSlots [] = Unit {0}
  AllSlots (b ∷ slots) = All b.value × AllSlots slots

  abbrev GivesAll : Result Stop Shown → Type 0
  GivesAll r = (o : Shown) → r ≡ gives o → All o.value

  abbrev Keeps : Run → Type 0
  Keeps run = (slots : Slots) (v : Value) → AllSlots slots → All v → GivesAll (run slots v)

  shown_all : (v : Value) (c : List ℕ) → All v → GivesAll (shown v c)
  shown_all v c g o h = on_gives (λ z. All z.value) (record { value = v; compared = c }) o h g

  slot_all : (k : ℕ) (slots : Slots) → AllSlots slots → All (value_in k slots)
  unfolding value_in
  slot_all k [] g = tt
  slot_all k (b ∷ slots) g = go (eqb k b.byte) (slot_all k slots g.1)
    where
      go : (t : Bool) → All (value_in k slots) → All (cond t b.value (value_in k slots))
      go true r = g.0
      go false r = r

  -- 09 and 0A
  abbrev AllGive : List (Result Stop Shown) → Type 0
  AllGive [] = Unit {0}
  AllGive (r ∷ rs) = GivesAll r × AllGive rs

  turn_all : (e n : ℕ) (rs : List (Result Stop Shown)) → AllGive rs → GivesAll (in_turn e n rs)
  unfolding in_turn
  turn_all e n [] G o h = shown_all [] [] tt o h
  turn_all e n (r ∷ rs) G o h =
      on_turn (λ z. All z.value) e n r rs o h λ a b p t q. all_append a.value b.value (G.0 a p) (turn_all e (n + length a.value) rs G.1 b q)

  items_all : (f : Value → Result Stop Shown) → ((i : Value) → All i → GivesAll (f i)) → (is : List Value) → AllIn is → AllGive (map f is)
  items_all f F [] G = tt
  items_all f F (i ∷ is) G = (F i G.0, items_all f F is G.1)

  then_all : (f g : Run) → Keeps f → Keeps g → Keeps (then_run f g)
  then_all f g F G slots v S k o h =
      on_bind (f slots v) _ o h λ a p h₁.
      on_bind (g slots a.value) _ o h₁ λ b q h₂.
      shown_all b.value (a.compared ++ b.compared) (G slots a.value S (F slots v S k a p) b q) o h₂

  branch_all : (t : Bool) (f g : Run) → Keeps f → Keeps g → Keeps (branch_run t f g)
  branch_all true f g F G = F
  branch_all false f g F G = G

  choose_all : (ask : Asking) (f g : Run) → Keeps f → Keeps g → Keeps (choose_run ask f g)
  choose_all ask f g F G slots v S k o h =
      on_bind (ask slots v) _ o h λ p q h₁.
      on_bind (branch_run p.yes f g slots v) _ o h₁ λ a r h₂.
      shown_all a.value (p.compared ++ a.compared) (branch_all p.yes f g F G slots v S k a r) o h₂

  module _ (look : Lookup) where
    -- the top node and the contents that 06 and 07 work on
    element_all : (e : ℕ) (v : Value) (x : Single) → All v → one_element look e v ≡ gives x → P x.top.origin × All x.inner
    element_all e v x g h =
        on_element look (λ w z. All w → P z.top.origin × All z.inner) (λ y w n el g. (g.0, all_lowered w g.1)) e v x h g

    contents_all : (e : ℕ) → Keeps (contents_run look e)
    contents_all e slots v S g o h = on_bind (one_element look e v) _ o h λ x q h₁. shown_all x.inner [] (element_all e v x g q).1 o h₁

    within_all : (e : ℕ) (run : Run) → Keeps run → Keeps (within_run look e run)
    within_all e run keeps slots v S g o h =
        on_bind (one_element look e v) _ o h λ x q h₁.
        on_bind (run slots x.inner) _ o h₁ λ a r h₂.
        let c = element_all e v x g q in
        on_bounded (λ z. All z.value) e (x.top ∷ raised a.value) a.compared o h₂ λ _. (c.0, all_raised a.value (keeps slots x.inner S c.1 a r))

    -- ## Programs: what stands at 03 and 04 is made by them

    module _ (E : List Entry) (texts : (p : ℕ) → (get_or E p no_entry).operation ≡ 0x03 → P (program p false (text_of (get_or E p no_entry))))
        (tags : (p : ℕ) → (get_or E p no_entry).operation ≡ 0x04 → P (program p true (text_of (get_or E p no_entry)))) where
      pub shows_all : (X : Transformation) (p q : ℕ) → Stands E X p q → Keeps (show look X)
      unfolding Stands show
      shows_all (source e) p q s = λ slots v S g. shown_all v [] g
      shows_all (nothing e) p q s = λ slots v S g. shown_all [] [] tt
      shows_all (text e b) p q s = λ slots v S g. shown_all _ [] (rw (s.0.0, s.1) (texts p s.0.1), tt)
      shows_all (tag e b) p q s = λ slots v S g. shown_all _ [] (rw (s.0.0, s.1) (tags p s.0.1), tt)
      shows_all (slot e k) p q s = λ slots v S g. shown_all (value_in k slots) [] (slot_all k slots S)
      shows_all (contents e) p q s = contents_all e
      shows_all (within e X) p q s = within_all e (show look X) (shows_all X (suc p) q s.1)
      shows_all (and_then e X Y) p q s = then_all (show look X) (show look Y) (shows_all X (suc p) s.1.0 s.1.1) (shows_all Y s.1.0 q s.1.2)
      shows_all (beside e X Y) p q s = λ slots v S g.
          turn_all e 0 (show look X slots v ∷ show look Y slots v ∷ [])
          (shows_all X (suc p) s.1.0 s.1.1 slots v S g, (shows_all Y s.1.0 q s.1.2 slots v S g, tt))
      shows_all (each e X) p q s = λ slots v S g.
          turn_all e 0 (map (show look X slots) (items v)) (items_all (show look X slots) (λ i k. shows_all X (suc p) q s.1 slots i S k) (items v) (all_items v g))
      shows_all (choose e t X Y) p q s =
          choose_all (test look t) (show look X) (show look Y) (shows_all X s.1.0 s.1.1 s.1.3) (shows_all Y s.1.1 q s.1.4)
      shows_all (bind e k X) p q s = λ slots v S g. shows_all X (suc p) q s.2 (bound k slots v) [] (g, S) tt
