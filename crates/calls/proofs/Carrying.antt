-- The edits carried into the master: what putting back asks of the work slice, and what its standings then say.
use Prim.Native.Nat.{ℕ, ◌+◌, ◌≤◌, ◌<◌}
use Rattle.std.specs.Prelude.{Option, None, Some, Ok, Err}
use native.Mathlib.Omega.{arith}
use mathlib.Core.Path.{◌≡◌, refl, sym, ap, subst, ◌∙◌}
use mathlib.Core.List.{List, [], map}
use mathlib.Core.Logic.{inl}
use lib.ListN.{length, length-map}
use Rattle.lines.specs.Nodes.{Line}
use Rattle.lines.specs.Entries.{Entry}
use Rattle.lines.specs.Verdicts.{first_from}
use Rattle.lines.specs.Writing.{file_of, put_at}
use Rattle.lines.specs.Theorems.PutAt.{length_put, put_part}
use Rattle.lines.proofs.Theorems.Places.{first_below, fault_below}
use Rattle.lines.specs.Engine.Writes.{WroteLines}
use Rattle.values.specs.Standings.{Standing, is_clash}
use Rattle.values.specs.Engine.Words.{part, standing_of, standings_at, AllNamed}
use Rattle.values.specs.Theorems.Extents.{length_part, put_other}
use Rattle.runs.specs.Results.{gives}
use Rattle.runs.specs.Programs.{Transformation}
use Rattle.runs.specs.Reading.{read_program}
use Rattle.runs.specs.Showing.{Shown}
use Rattle.runs.specs.Grounds.{one_master, showing}
use Rattle.runs.specs.Engine.Runs.{made_by, value_only, marks_at, marks_to, PutSpace, Seen, PutBy}
use Rattle.runs.specs.Engine.SlotWords.{no_slots}
use Rattle.runs.specs.Engine.Trees.{Stands}
use Rattle.runs.specs.Theorems.WholePrograms.{program_placed}
use Rattle.calls.specs.Judging.{judged_standings}
use Rattle.calls.specs.Outcomes.{out_room}
use Rattle.calls.specs.declared.refusal.Refusal.TheVariants.{Clash}
use Rattle.calls.specs.Engine.Parts.{SettledBy, source_words, view_lines, brought_words, texts_of}
use Rattle.calls.specs.Engine.Parts.{handed_lines, HandingRoom, Carriable, CarriedBack}
use Rattle.calls.proofs.Grounded.{same_lookup, source_value, no_slots_at, no_slots_bound, same_showing}
use Rattle.calls.proofs.ViewWords.{length_brought}
use Rattle.calls.proofs.Carried.{brought_named, brought_standings, put_back_whole, brought_in, carried_clashes, carried_goes}
use Rattle.calls.proofs.Steps.{refused_settles, written_settles}

-- what the standings at place 256 of w say, by their first clash: reply 11 at its place, or the lines that are handed back
pub record Handed (E : List Entry) (L es : List Line) (w out : List ℕ) (first : Option ℕ) : Type 0 where
  pub refuses : (n : ℕ) → first ≡ Some n → CarriedBack E L es out out (Err (Clash n))
  pub room : first ≡ None → HandingRoom L es w out
  pub settles : first ≡ None → (out' : List ℕ) (end : ℕ) → WroteLines (handed_lines L es w) out out' end → CarriedBack E L es out out' (Ok end)

-- the standings put at place 256, and what any search for their first clash answers
pub record Stood (E : List Entry) (L es : List Line) (w out : List ℕ) : Type 0 where
  pub inside : 256 + length L ≤ length w
  pub searched : (n : ℕ) → n ≡ length L → (first : Option ℕ) → ((texts : ℕ → List ℕ) → first ≡ first_from is_clash 0 (standings_at texts w 256 n)) → Handed E L es w out first

module _ {E : List Entry} {ends : List ℕ} {L es : List Line} {w out : List ℕ} (k : Carriable E ends L es w out) where
  abbrev fresh : List Line
  fresh = view_lines E L w (length es)

  abbrev words : List ℕ
  words = brought_words fresh es

  few_words : length words ≤ 128
  few_words = let e = length_brought fresh es in let f = k.few in omega arith

  module _ {w₁ : List ℕ} (comes : w₁ ≡ put_at w 128 words) where
    fits : 128 + length words ≤ length w
    fits = let f = few_words in let r = k.work_room in omega arith

    pub long_work : length w₁ ≡ length w
    long_work = ap length comes ∙ length_put w 128 words fits

    foot : part w₁ 0 (length L) ≡ source_words 0 L
    foot =
        let f = k.runnable.few_lines in
        ap (λ (l : List ℕ). part l 0 (length L)) comes ∙ put_other w 128 words fits 0 (length L) (inl (omega arith)) ∙ k.foot

    view_words : part w₁ 128 (length es) ≡ words
    view_words =
        ap (λ (l : List ℕ). part l 128 (length es)) comes ∙ ap (part (put_at w 128 words) 128) (sym (length_brought fresh es)) ∙ put_part w 128 words (omega arith)

    -- what `put` asks
    pub put_space : (marks : List ℕ) → length marks ≡ 512 → PutSpace w₁ marks no_slots 0 (length L) 128 (length es) 256 12
    put_space marks h =
        let f = k.runnable.few_lines in
        let v = k.few in
        let r = k.work_room in
        let s = long_work in
        record { below = omega arith; short = f; view_below = omega arith; enough = omega arith; low = omega arith; marks_long = h; bound = no_slots_bound 256 }

    pub seen : Seen E L w₁ no_slots 0 0 (length L) (length es)
    seen =
        record {
          fits = λ X q h.
              let o = k.shows X q h in
              (o.0.value, ap value_only (same_showing (made_by E) w₁ L k.runnable.few_lines foot X ∙ o.1), o.2);
        }

    -- ## What it leaves

    module _ {marks w₂ marks₂ : List ℕ} (put : PutBy E L w₁ marks no_slots 0 0 (length L) 128 (length es) 256 w₂ marks₂) (kept : length w₂ ≡ length w₁) where
      abbrev handed : List Standing
      handed = standings_at (texts_of es) w₂ 256 (length L)

      room_for_standings : 256 + length L ≤ length w₂
      room_for_standings = let f = k.runnable.few_lines in let r = k.work_room in let s = long_work in omega arith

      found_is : (n : ℕ) → n ≡ length L → (v : Option ℕ) → ((texts : ℕ → List ℕ) → v ≡ first_from is_clash 0 (standings_at texts w₂ 256 n)) → first_from is_clash 0 handed ≡ v
      found_is n e v h = sym (h (texts_of es) ∙ ap (λ (m : ℕ). first_from is_clash 0 (standings_at (texts_of es) w₂ 256 m)) e)

      long_handed : length handed ≡ length L
      unfolding standings_at
      long_handed = length-map (part w₂ 256 (length L)) (standing_of (texts_of es)) ∙ length_part w₂ 256 (length L) room_for_standings

      clash_place : (n : ℕ) → first_from is_clash 0 handed ≡ Some n → n < 128
      clash_place n h = let b = fault_below (0 + length handed) (first_below is_clash 0 handed) n h in let l = long_handed in let f = k.runnable.few_lines in omega arith

      module _ (X : Transformation) (read : read_program E ≡ gives X) where
        abbrev stands : Stands E X 0 (length E)
        stands = (program_placed E X read).stands

        abbrev o : Shown
        o = (k.shows X (length E) stands).0

        abbrev shows : showing (one_master L) X ≡ gives o
        shows = (k.shows X (length E) stands).1

        view_brings : standings_at (texts_of es) w₁ 128 (length es) ≡ brought_in L X es o shows
        unfolding standings_at
        view_brings =
            let shown = k.shows X (length E) stands in
            ap (map (standing_of (texts_of es))) (view_words ∙ ap (λ (fs : List Line). brought_words fs es) shown.3)
            ∙ brought_standings es (one_master L) o.value shown.2

        no_marks : marks_at (texts_of es) marks no_slots ≡ []
        unfolding marks_at marks_to
        no_marks = refl

        is_handed : handed ≡ (put_back_whole L X (brought_in L X es o shows)).in_source
        is_handed =
            (put.meets (texts_of es) (subst (AllNamed (texts_of es)) (sym view_words) (brought_named es fresh)) tt X (length E) stands).0
            ∙ rw (same_lookup L, no_slots_at (made_by E) w₁, source_value (made_by E) w₁ L k.runnable.few_lines foot, view_brings, no_marks) refl

        clash_refuses : (n : ℕ) → first_from is_clash 0 handed ≡ Some n → SettledBy (judged_standings (one_master L) X es) out out (Err (Clash n))
        clash_refuses n h = let low = clash_place n h in refused_settles _ out (Clash n) (carried_clashes L X es o shows handed is_handed long_handed n h, omega arith)

        lines_handed : first_from is_clash 0 handed ≡ None → judged_standings (one_master L) X es ≡ gives (handed_lines L es w₂)
        lines_handed h = carried_goes L X es o shows handed is_handed long_handed h

      handed_short : first_from is_clash 0 handed ≡ None → length (file_of (handed_lines L es w₂)) ≤ out_room
      handed_short h = k.short (handed_lines L es w₂) (lines_handed k.runnable.tree k.runnable.read h)

      handed_settles : first_from is_clash 0 handed ≡ None → (out' : List ℕ) (end : ℕ) → WroteLines (handed_lines L es w₂) out out' end → CarriedBack E L es out out' (Ok end)
      handed_settles h out' end wrote X read = rw (lines_handed X read h) (written_settles (handed_lines L es w₂) out out' end wrote (handed_short h))

      handing_room : first_from is_clash 0 handed ≡ None → HandingRoom L es w₂ out
      handing_room h = let s = handed_short h in let r = k.room in record { inside = room_for_standings; room = omega arith }

      pub standings_put : Stood E L es w₂ out
      standings_put =
          record {
            inside = room_for_standings;
            searched = λ n e first h.
                let found = found_is n e first h in
                record {
                  refuses = λ m q X read. clash_refuses X read m (found ∙ q);
                  room = λ q. handing_room (found ∙ q);
                  settles = λ q. handed_settles (found ∙ q);
                };
          }
