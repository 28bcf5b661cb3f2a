-- What a put-back run leaves, said of what extents and slots hold; and what a run showed before.
use mathlib.Core.Path.{◌≡◌, refl, sym, ap, subst, ◌∙◌}
use mathlib.Core.Bool.{Bool}
use mathlib.Core.List.{List}
use Prim.Native.Nat.{ℕ, ◌+◌, ◌-◌, ◌*◌, ◌≤◌}
use native.Mathlib.Omega.{arith}
use lib.ListN.{length, get_or, take}
use Rattle.lines.specs.Entries.{Entry}
use Rattle.lines.specs.Nodes.{Line}
use Rattle.values.specs.Values.{Value}
use Rattle.values.specs.Standings.{Standing}
use Rattle.values.specs.Engine.Words.{part, value_at, standings_at, AllNamed}
use Rattle.values.proofs.Theorems.WordLaws.{length_value, value_frame}
use Rattle.runs.specs.declared.stop.Stop.{Stop}
use Rattle.runs.specs.declared.slots.SlotWords.{SlotWords}
use Rattle.runs.specs.Results.{Result, gives, stops}
use Rattle.runs.specs.Programs.{Transformation, Test}
use Rattle.runs.specs.Reading.{no_entry}
use Rattle.runs.specs.Showing.{Shown, Answer, show}
use Rattle.runs.specs.PuttingBack.{SlotStandings, Back, value_of, says_yes, put_back, put_back_test}
use Rattle.runs.specs.Engine.Runs.{Run, Tested, made_by, lookup_of, slots_at, Bound, value_only, yes_only, Space, ShownBy, TestedBy, marks_at, NamedTo, PutSpace, Seen, Begun, PutBy, TestPutBy, Ready}
use Rattle.runs.specs.Engine.Trees.{Stands, StandsTest}
use Rattle.runs.specs.Theorems.Inversion.{no_gives, gives_inj}
use Rattle.runs.proofs.SlotLaws.{bound_higher, slots_frame}
use Rattle.runs.specs.Theorems.RunAnswers.{Got, Halted, Gave}
use Rattle.runs.proofs.PutWords.{Holds}
use Rattle.runs.proofs.PutSlots.{SlotsHold}

-- ## What is handed back

pub record HandsBack (texts : ℕ → List ℕ) (w marks : List ℕ) (slots : SlotWords) (top len : ℕ) (b : Back) : Type 0 where
  pub source : Holds texts w top len b.in_source
  pub slots_hold : SlotsHold texts marks slots b.in_slots

-- the four parts of what a contract says, of an extent and slots that hold these standings
hands : {texts : ℕ → List ℕ} {w marks w' marks' : List ℕ} {slots : SlotWords} {view vlen top len : ℕ}
    {ss : List Standing} {us : SlotStandings} (b : List Standing → SlotStandings → Back)
    → Holds texts w view vlen ss → SlotsHold texts marks slots us
    → (let c = b (standings_at texts w view vlen) (marks_at texts marks slots) in
    (standings_at texts w' top len ≡ c.in_source) × (marks_at texts marks' slots ≡ c.in_slots) × AllNamed texts (part w' top len) × NamedTo texts marks' slots slots.count)
    → HandsBack texts w' marks' slots top len (b ss us)
hands {texts} {w} {marks} {w'} {marks'} {slots} {view} {vlen} {top} {len} {ss} {us} b h u r =
    subst (λ (x : SlotStandings). HandsBack texts w' marks' slots top len (b ss x)) u.says
    (subst (λ (x : List Standing). HandsBack texts w' marks' slots top len (b x (marks_at texts marks slots))) h.says
    (record { source = record { says = r.0; named = r.2 }; slots_hold = record { says = r.1; named = r.3 } }))

module _ {entries : List Entry} {lines : List Line} where
  module _ {w marks : List ℕ} {slots : SlotWords} {entry start len view vlen top : ℕ} {w' marks' : List ℕ} where
    pub put_by : PutBy entries lines w marks slots entry start len view vlen top w' marks' → {texts : ℕ → List ℕ} {ss : List Standing} {us : SlotStandings}
        → Holds texts w view vlen ss → SlotsHold texts marks slots us → (X : Transformation) (q : ℕ) → Stands entries X entry q
        → HandsBack texts w' marks' slots top len (put_back (lookup_of lines) X (slots_at (made_by entries) w slots) (value_at (made_by entries) w start len) ss us)
    put_by p {texts} h u X q st =
        hands (put_back (lookup_of lines) X (slots_at (made_by entries) w slots) (value_at (made_by entries) w start len)) h u (p.meets texts h.named u.named X q st)

    pub by_put : take top w' ≡ take top w
        → ((texts : ℕ → List ℕ) (ss : List Standing) (us : SlotStandings) → Holds texts w view vlen ss
        → SlotsHold texts marks slots us → (X : Transformation) (q : ℕ) → Stands entries X entry q
        → HandsBack texts w' marks' slots top len (put_back (lookup_of lines) X (slots_at (made_by entries) w slots) (value_at (made_by entries) w start len) ss us))
        → PutBy entries lines w marks slots entry start len view vlen top w' marks'
    by_put f k =
        record {
          frame = f;
          meets = λ texts n m X q st.
              let h = k texts (standings_at texts w view vlen) (marks_at texts marks slots) (record { says = refl; named = n }) (record { says = refl; named = m }) X q st in
              (h.source.says, h.slots_hold.says, h.source.named, h.slots_hold.named);
        }

  -- a test, over what stands at top
  module _ {w marks : List ℕ} {slots : SlotWords} {entry start len top : ℕ} {w' marks' : List ℕ} where
    pub test_by : TestPutBy entries lines w marks slots entry start len top w' marks' → {texts : ℕ → List ℕ} {ss : List Standing} {us : SlotStandings}
        → Holds texts w top len ss → SlotsHold texts marks slots us → (P : Test) (q : ℕ) → StandsTest entries P entry q
        → HandsBack texts w' marks' slots top len (put_back_test (lookup_of lines) P (slots_at (made_by entries) w slots) (value_at (made_by entries) w start len) ss us)
    test_by p {texts} h u P q st =
        hands (put_back_test (lookup_of lines) P (slots_at (made_by entries) w slots) (value_at (made_by entries) w start len)) h u (p.meets texts h.named u.named P q st)

    pub by_test : take top w' ≡ take top w
        → ((texts : ℕ → List ℕ) (ss : List Standing) (us : SlotStandings) → Holds texts w top len ss
        → SlotsHold texts marks slots us → (P : Test) (q : ℕ) → StandsTest entries P entry q
        → HandsBack texts w' marks' slots top len (put_back_test (lookup_of lines) P (slots_at (made_by entries) w slots) (value_at (made_by entries) w start len) ss us))
        → TestPutBy entries lines w marks slots entry start len top w' marks'
    by_test f k =
        record {
          frame = f;
          meets = λ texts n m P q st.
              let h = k texts (standings_at texts w top len) (marks_at texts marks slots) (record { says = refl; named = n }) (record { says = refl; named = m }) P q st in
              (h.source.says, h.slots_hold.says, h.source.named, h.slots_hold.named);
        }

-- ## What was shown

-- a value of this length
abbrev pub GivesLong : Result Stop Shown → ℕ → Type 0
GivesLong r n = (o : Value) × (value_only r ≡ gives o) × (length o ≡ n)

pub on_long : {C : Type 0} (r : Result Stop Shown) (n : ℕ) → GivesLong r n → ((a : Shown) → r ≡ gives a → length a.value ≡ n → C) → C
on_long (gives a) n h k = k a refl (ap length (gives_inj a.value h.0 h.1) ∙ h.2)
on_long (stops s) n h k = absurd (no_gives s h.0 h.1)

pub gives_long : (r : Result Stop Shown) (a : Shown) (n : ℕ) → r ≡ gives a → length a.value ≡ n → GivesLong r n
gives_long r a n e l = (a.value, ap value_only e, l)

given : {r : Result Stop Shown} {v : Value} → Gave r v → value_only r ≡ gives v
given a = ap value_only a.is ∙ ap gives a.value

pub answer_is : (r : Result Stop Answer) (b : Bool) → yes_only r ≡ gives b → says_yes r ≡ b
unfolding says_yes
answer_is (gives p) b h = gives_inj p.yes b h
answer_is (stops s) b h = absurd (no_gives s b h)

module _ {entries : List Entry} {lines : List Line} {w : List ℕ} {slots : SlotWords} {entry start len top : ℕ} {w' : List ℕ} where
  pub not_stopped : {s : Stop} {n : ℕ} → Halted entries lines w slots entry start len top w' s → (X : Transformation) (q : ℕ) → Stands entries X entry q
      → GivesLong (show (lookup_of lines) X (slots_at (made_by entries) w slots) (value_at (made_by entries) w start len)) n → ⊥
  not_stopped {s} h X q st g = no_gives s g.0 (sym (ap value_only (h.is X q st)) ∙ g.1)

  pub got_value : {n : ℕ} → Got entries lines w slots entry start len top w' n → (X : Transformation) (q : ℕ) → Stands entries X entry q
      → value_at (made_by entries) w' top n ≡ value_of (show (lookup_of lines) X (slots_at (made_by entries) w slots) (value_at (made_by entries) w start len))
  unfolding value_of
  got_value g X q st = let a = g.is X q st in sym (ap value_of a.is ∙ a.value)

  pub got_size : {n : ℕ} → Got entries lines w slots entry start len top w' n → top + n ≤ length w' → (X : Transformation) (q : ℕ) → Stands entries X entry q
      → n ≡ length (value_of (show (lookup_of lines) X (slots_at (made_by entries) w slots) (value_at (made_by entries) w start len)))
  got_size {n} g fits X q st = sym (length_value (made_by entries) w' top n fits) ∙ ap length (got_value g X q st)

  -- said of an earlier slice with the same words below top
  pub shown_before : {r : Run} {w₀ : List ℕ} → take top w ≡ take top w₀ → start + len ≤ top → Bound slots top → ShownBy entries lines w slots entry start len top w' r
      → ShownBy entries lines w₀ slots entry start len top w' r
  shown_before {w₀ = w₀} f below b s =
      record {
        frame = s.frame ∙ f;
        place = s.place;
        meets = rw (← (slots_frame (made_by entries) w₀ w b f), ← (value_frame (made_by entries) w₀ w top start len f below)) s.meets;
      }

  pub told : {r r' : Tested} → TestedBy entries lines w slots entry start len top w' r → r ≡ r' → TestedBy entries lines w slots entry start len top w' r'
  told s e = rw e at s

  -- so it may be put back through, also where something was done above the source since
  pub got_seen : {n : ℕ} → Got entries lines w slots entry start len top w' n → top + n ≤ length w'
      → {w'' : List ℕ} {low : ℕ} → take low w'' ≡ take low w → start + len ≤ low → Bound slots low
      → Seen entries lines w'' slots entry start len n
  got_seen {n} g fits {w''} {low} f below b =
      record {
        fits = λ X q st. (
          value_at (made_by entries) w' top n,
          rw (slots_frame (made_by entries) w w'' b f, value_frame (made_by entries) w w'' low start len f below) (given (g.is X q st)),
          length_value (made_by entries) w' top n fits,
        );
      }

-- ## Room for a run below another

pub put_space : {w marks : List ℕ} {slots : SlotWords} {start len view vlen top levels : ℕ} → PutSpace w marks slots start len view vlen top levels
    → {w' marks' : List ℕ} {start' len' view' vlen' top' levels' : ℕ} → length w' ≡ length w → length marks' ≡ length marks
    → start' + len' ≤ top' → len' ≤ 128 → view' + vlen' ≤ top' → top ≤ top' → top' + 256 * levels' ≤ top + 256 * levels
    → PutSpace w' marks' slots start' len' view' vlen' top' levels'
put_space s {top' = top'} l m a b c d e =
    let k = s.marks_long in
    record { below = a; short = b; view_below = c; enough = omega arith; low = omega arith; marks_long = omega arith; bound = bound_higher s.bound top' d }

pub show_space : {w marks : List ℕ} {slots : SlotWords} {start len view vlen top levels : ℕ} → PutSpace w marks slots start len view vlen top levels
    → {w' : List ℕ} {start' len' top' levels' : ℕ} → length w' ≡ length w → start' + len' ≤ top' → len' ≤ 128 → top ≤ top' → top' + 128 * levels' ≤ top + 256 * levels
    → Space w' slots start' len' top' levels'
show_space s {top' = top'} l a b d e =
    record { below = a; short = b; enough = omega arith; low = omega arith; bound = bound_higher s.bound top' d }

-- ## What a combinator's function stands on

pub begun : {entries : List Entry} {lines : List Line} {ends w marks : List ℕ} {slots : SlotWords} {entry start len view vlen top levels k : ℕ}
    → Ready entries ends slots entry levels → PutSpace w marks slots start len view vlen top levels → Seen entries lines w slots entry start len vlen
    → (get_or entries entry no_entry).operation ≡ k → 1 ≤ levels - 1 → Begun entries lines ends w marks slots entry start len view vlen top levels k
begun r p s o h = record { ready = r; room = p; seen = s; op = o; two = omega arith }
