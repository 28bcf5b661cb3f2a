-- An outcome by its three ways: no room, refused, done. And which numbers a refusal has.
use Rattle.std.specs.Prelude.{◌≡◌, refl, Bool, cond, List, ℕ, ◌≤◌, length, take, Option, None, Some, Result as Answer, Ok, Err}
use Rattle.std.proofs.Common.{subst, arith}
use Rattle.std.proofs.Math.Bool.{true, false}
use Rattle.lines.specs.declared.scan.File.TheVariants.{Program, Master, View}
use Rattle.lines.specs.Files.{scan}
use Rattle.lines.specs.Nodes.{Line, nodes}
use Rattle.lines.specs.Entries.{entries}
use Rattle.lines.specs.Verdicts.{Reply, reply}
use Rattle.lines.specs.Views.{first_difference, program_mark}
use Rattle.lines.specs.Writing.{file_of, put_at}
use Rattle.lines.specs.Theorems.PutAt.{put_front}
use Rattle.runs.specs.declared.stop.Stop.{Stop}
use Rattle.runs.specs.declared.stop.Stop.TheVariants.{Source, Size}
use Rattle.runs.specs.Results.{Result, gives, stops, ◌>>=◌, ◌>>◌, stop_number, stop_entry}
use Rattle.runs.specs.Programs.{Transformation}
use Rattle.runs.specs.Reading.{read_program}
use Rattle.runs.specs.Showing.{Shown}
use Rattle.runs.specs.Grounds.{Ground, one_master, showing, view, standing_for, first_clash, handed_back, lines_in}
use Rattle.calls.specs.Judging.{Judged, formed, keeps, is_tree, ran, judged_program, master_rule, judged_master, judged_view, judged_standings, judged_show, judged_put_back}
use Rattle.calls.specs.Outcomes.{Outcome, outcome, enough, cleared, settled, called}

-- ## Refusals

-- all refusals of a judging have numbers of a kind
abbrev pub Refusing : {A : Type 0} → (ℕ → Type 0) → Judged A → Type 0
Refusing S judged = (r : Reply) → judged ≡ stops r → S r.number

module _ (S : ℕ → Type 0) where
  pub gives_refusing : {A : Type 0} (a : A) → Refusing S (gives a)
  gives_refusing a r h = absurd (let z : ◌≡◌ {A = ℕ} 0 1 = cc in omega arith)

  stops_refusing : {A : Type 0} (k place : ℕ) → S k → Refusing {A = A} S (stops (reply k place))
  stops_refusing k place s r h = subst (λ (z : Reply). S z.number) (let z : reply k place ≡ r = cc in z) s

  pub bind_refusing : {A B : Type 0} (j : Judged A) (f : A → Judged B) → Refusing S j → ((a : A) → j ≡ gives a → Refusing S (f a)) → Refusing S (j >>= f)
  bind_refusing (gives a) f j-refusing f-refusing r h = f-refusing a refl r h
  bind_refusing (stops e) f j-refusing f-refusing r h = subst (λ (z : Reply). S z.number) (let z : e ≡ r = cc in z) (j-refusing e refl)

  after_refusing : {A : Type 0} (j : Judged (Unit {0})) (k : Judged A) → Refusing S j → Refusing S k → Refusing S (j >> k)
  after_refusing (gives u) k j-refusing k-refusing r h = k-refusing r h
  after_refusing (stops e) k j-refusing k-refusing r h = subst (λ (z : Reply). S z.number) (let z : e ≡ r = cc in z) (j-refusing e refl)

  formed_refusing : (k : ℕ) (s : Answer ℕ ℕ) → S k → Refusing S (formed k s)
  unfolding formed
  formed_refusing k (Ok n) s = gives_refusing tt
  formed_refusing k (Err line) s = stops_refusing k line s

  keeps_refusing : (k : ℕ) (v : Option ℕ) → S k → Refusing S (keeps k v)
  unfolding keeps
  keeps_refusing k None s = gives_refusing tt
  keeps_refusing k (Some place) s = stops_refusing k place s

  is_tree_refusing : (k : ℕ) (x : Result ℕ Transformation) → S k → Refusing S (is_tree k x)
  unfolding is_tree
  is_tree_refusing k (gives X) s = gives_refusing X
  is_tree_refusing k (stops place) s = stops_refusing k place s

  pub ran_refusing : (x : Result Stop Shown) → S 6 → S 7 → Refusing S (ran x)
  unfolding ran stop_number
  ran_refusing (gives o) s t = gives_refusing o
  ran_refusing (stops (Source e)) s t = stops_refusing 6 (stop_entry (Source e)) s
  ran_refusing (stops (Size e)) s t = stops_refusing 7 (stop_entry (Size e)) t

  pub program_refusing : (program : List ℕ) → S 2 → S 3 → Refusing S (judged_program program)
  unfolding judged_program
  program_refusing program s t =
      after_refusing (formed 2 (scan Program program)) (is_tree 3 (read_program (entries program))) (formed_refusing 2 (scan Program program) s)
      (is_tree_refusing 3 (read_program (entries program)) t)

  pub master_refusing : (putting : Bool) (master : List ℕ) → S 4 → S 5 → Refusing S (judged_master putting master)
  unfolding judged_master
  master_refusing putting master s t =
      after_refusing (formed 4 (scan Master master)) _ (formed_refusing 4 (scan Master master) s)
      (after_refusing (keeps 5 (master_rule putting (nodes master))) _ (keeps_refusing 5 (master_rule putting (nodes master)) t) (gives_refusing (nodes master)))

  pub view_refusing : (fresh : List Line) (edited : List ℕ) → S 8 → S 9 → S 10 → Refusing S (judged_view fresh edited)
  unfolding judged_view
  view_refusing fresh edited s t u =
      after_refusing (formed 8 (scan View edited)) _ (formed_refusing 8 (scan View edited) s)
      (after_refusing (keeps 9 (first_difference (nodes edited) fresh)) _ (keeps_refusing 9 (first_difference (nodes edited) fresh) t)
      (after_refusing (keeps 10 (program_mark (nodes edited))) _ (keeps_refusing 10 (program_mark (nodes edited)) u) (gives_refusing (nodes edited))))

  pub standings_refusing : (G : Ground) (X : Transformation) (es : List Line) → S 11 → Refusing S (judged_standings G X es)
  unfolding judged_standings
  standings_refusing G X es s =
      after_refusing (keeps 11 (first_clash (standing_for G X es) G.lines)) _ (keeps_refusing 11 (first_clash (standing_for G X es) G.lines) s)
      (gives_refusing (lines_in (handed_back (standing_for G X es) G.lines)))

  pub show_refusing : (master program : List ℕ) → S 2 → S 3 → Refusing S (judged_master false master) → S 6 → S 7 → Refusing S (judged_show master program)
  unfolding judged_show
  show_refusing master program two three M six seven =
      bind_refusing (judged_program program) _ (program_refusing program two three) λ X p.
      bind_refusing (judged_master false master) _ M λ ls m.
      bind_refusing (ran (showing (one_master ls) X)) _ (ran_refusing (showing (one_master ls) X) six seven) λ o r.
      gives_refusing (view (one_master ls) o.value)

  pub put_back_refusing : (master program edited : List ℕ) → S 2 → S 3 → Refusing S (judged_master true master) → S 6 → S 7 → S 8 → S 9 → S 10 → S 11
      → Refusing S (judged_put_back master program edited)
  unfolding judged_put_back
  put_back_refusing master program edited two three M six seven eight nine ten eleven =
      bind_refusing (judged_program program) _ (program_refusing program two three) λ X p.
      bind_refusing (judged_master true master) _ M λ ls m.
      bind_refusing (ran (showing (one_master ls) X)) _ (ran_refusing (showing (one_master ls) X) six seven) λ o r.
      bind_refusing (judged_view (view (one_master ls) o.value) edited) _ (view_refusing (view (one_master ls) o.value) edited eight nine ten) λ es v.
      standings_refusing (one_master ls) X es eleven

-- refusals have the numbers from 2 on
abbrev pub Refusal : ℕ → ℕ → Type 0
Refusal most n = (2 ≤ n) × (n ≤ most)

-- of showing, 2 to 7
pub show_refusals : (master program : List ℕ) → Refusing (Refusal 7) (judged_show master program)
show_refusals master program =
    let S = Refusal 7 in
    show_refusing S master program (omega arith) (omega arith) (master_refusing S false master (omega arith) (omega arith)) (omega arith) (omega arith)

-- of putting back, 2 to 11
pub put_back_refusals : (master program edited : List ℕ) → Refusing (Refusal 11) (judged_put_back master program edited)
put_back_refusals master program edited =
    let S = Refusal 11 in
    put_back_refusing S master program edited (omega arith) (omega arith) (master_refusing S true master (omega arith) (omega arith)) (omega arith) (omega arith)
    (omega arith) (omega arith) (omega arith) (omega arith)

-- ## Outcomes

-- the three ways
pub by_outcome : (P : Outcome → Type 0) (judged : Judged (List Line)) (out work : List ℕ)
    → (enough out work ≡ false → P (outcome 1 0 0 out work))
    → ((r : Reply) → enough out work ≡ true → judged ≡ stops r → P (outcome r.number r.place 0 out (cleared work)))
    → ((ls : List Line) → enough out work ≡ true → judged ≡ gives ls → P (outcome 0 0 (length (file_of ls)) (put_at out 0 (file_of ls)) (cleared work)))
    → P (called judged out work)
unfolding called settled
by_outcome P judged out work none refused done = go judged (enough out work) refused done none
  where
    go : (judged : Judged (List Line)) (b : Bool)
        → ((r : Reply) → b ≡ true → judged ≡ stops r → P (outcome r.number r.place 0 out (cleared work)))
        → ((ls : List Line) → b ≡ true → judged ≡ gives ls → P (outcome 0 0 (length (file_of ls)) (put_at out 0 (file_of ls)) (cleared work)))
        → (b ≡ false → P (outcome 1 0 0 out work))
        → P (cond b (settled judged out (cleared work)) (outcome 1 0 0 out work))
    go (gives ls) true refused done none = done ls refl refl
    go (stops r) true refused done none = refused r refl refl
    go judged false refused done none = none refl

-- 0 is answered where the judging was passed, and the output begins with the lines
pub done_lines : {C : Type 0} (most : ℕ) (judged : Judged (List Line)) → Refusing (Refusal most) judged → (out work : List ℕ) (place n : ℕ) (out' work' : List ℕ)
    → called judged out work ≡ outcome 0 place n out' work' → ((ls : List Line) → judged ≡ gives ls → take n out' ≡ file_of ls → C) → C
done_lines {C = C} most judged refusals out work place n out' work' =
    by_outcome (λ z. z ≡ outcome 0 place n out' work' → ((ls : List Line) → judged ≡ gives ls → take n out' ≡ file_of ls → C) → C) judged out work
    (λ _ h k. absurd (let z : ◌≡◌ {A = ℕ} 1 0 = cc in omega arith))
    (λ r _ j h k. let s = refusals r j in absurd (let z : r.number ≡ 0 = cc in omega arith))
    (λ ls _ j h k.
    let a : length (file_of ls) ≡ n = cc in
    let b : put_at out 0 (file_of ls) ≡ out' = cc in
    k ls j (rw (← a, ← b) (put_front out (file_of ls))))
