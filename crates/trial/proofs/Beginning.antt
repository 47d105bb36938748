-- What reading a page and a list comes to, and what it leaves. Assumes nothing.
use mathlib.Core.Path.{◌≡◌, sym, ◌∙◌, ap}
use mathlib.Core.Bool.{true}
use mathlib.Core.List.{List, [], ◌∷◌, ◌++◌}
use mathlib.Core.Option.{none, some}
use Prim.Native.Nat.{ℕ, ◌*◌, ◌≤◌}
use native.Mathlib.Omega.{arith}
use lib.ListN.{length, drop}
use Rattle.semantics.specs.Area.{sound, page_of, top_of, conditions_of}
use Rattle.semantics.specs.Output.{refusal_fields, printed}
use Rattle.semantics.specs.Page.{Page}
use Rattle.semantics.specs.ReadPage.{or_else, text_refusal, page_read, refused_page, read_page, read_of}
use Rattle.semantics.specs.Trials.{list_refusal, list_read, IsTrialsOutput}
use Rattle.semantics.proofs.Outputs.{read_refused, read_accepted, page_accepted}
use Rattle.semantics.proofs.ReadProper.{read_small}
use Rattle.semantics.proofs.TrialLists.{list_small}
use Rattle.semantics.proofs.UsedLength.{most_used}
use Rattle.print.specs.declared.Text.{Text}
use Rattle.std.specs.Prelude.{Result, Ok, Err}
use Rattle.print.specs.Texts.{Room, Puts}
use Rattle.print.proofs.Writing.{puts_fits}
use Rattle.list.specs.Codes.{list_codes}
use Rattle.list.specs.Answers.{ListRefused, ListRead}
use Rattle.list.proofs.Results.{refusal_for}
use Rattle.trial.specs.Parts.{list_left, BothRead, EitherRefused, OutputBegun, BegunAs}
use Rattle.trial.specs.declared.Refusal.{Refusal}
use Rattle.trial.proofs.Listing.{list_in}

-- what is refused is the output
pub refused_output : {text bytes : List ℕ} {number line : ℕ} {t t' : Text} → EitherRefused text bytes number line → Puts t (printed (refusal_fields number line ∷ [])) t'
    → OutputBegun text bytes t t'
unfolding IsTrialsOutput
refused_output {number = number} {line = line} r w =
    record { output = printed (refusal_fields number line ∷ []); is_output = rw r.told; wrote = w }

-- whatever the beginning, it lies in the slice
pub begun_fits : (text bytes a list : List ℕ) (t t' : Text) (r : Result ℕ Refusal) → BegunAs text bytes a list t t' r → Room t' 0
begun_fits text bytes a list t t' (Err r) b = puts_fits b.wrote
begun_fits text bytes a list t t' (Ok lines) b = puts_fits b.wrote

module _ (text bytes area : List ℕ) (long : most_used ≤ length area) where
  -- the page is refused
  module _ {number line place : ℕ} (e : refused_page number line place ≡ (read_of text area).answer) where
    pub page_refused : EitherRefused text bytes number line
    page_refused =
        let s = read_small text area e in
        record { place = place; told = rw (read_refused text area long e); number_few = omega (arith, s.number_most); line_few = omega (arith, s.line_most) }

    pub left_as_it_was : (list : List ℕ) → list ≡ list_left (or_else (text_refusal text) (list_refusal (page_read text) bytes)) bytes list
    left_as_it_was list = rw (read_refused text area long e)

  -- the page is read, and the list for it
  module _ {used : ℕ} {a : List ℕ} (e : read_page used ≡ (read_of text area).answer) (q : a ≡ (read_of text area).area) (list list' : List ℕ) where
    same_page : page_of a ≡ page_read text
    same_page = ap page_of q ∙ page_accepted text area long (read_accepted text area long e)

    left : list' ≡ list_left (list_refusal (page_of a) bytes) bytes list
        → list' ≡ list_left (or_else (text_refusal text) (list_refusal (page_read text) bytes)) bytes list
    left h = rw (read_accepted text area long e) (h ∙ ap (λ (p : Page). list_left (list_refusal p bytes) bytes list) same_page)

    -- the list is refused, for the page's top and C
    module _ {number line : ℕ} (h : ListRefused bytes (top_of a) (conditions_of a) number line list list') where
      told : list_refusal (page_of a) bytes ≡ some (record { number = number; line = line; place = 0 })
      unfolding page_of
      told = refusal_for (page_of a) bytes ∙ h.told

      pub list_refused : EitherRefused text bytes number line
      list_refused =
          let s = list_small (page_of a) bytes _ told in
          record {
            place = 0;
            told = rw (read_accepted text area long e) (ap (λ (p : Page). list_refusal p bytes) (sym same_page) ∙ told);
            number_few = omega (arith, s);
            line_few = omega (arith, s);
          }

      pub left_refused : list' ≡ list_left (or_else (text_refusal text) (list_refusal (page_read text) bytes)) bytes list
      left_refused = left (rw told h.same)

    -- it is read
    module _ {k : ℕ} (h : ListRead bytes (top_of a) (conditions_of a) k list list') where
      good : list_refusal (page_of a) bytes ≡ none
      unfolding page_of
      good = refusal_for (page_of a) bytes ∙ h.good

      pub both_read : sound a ≡ true → 4096 ≤ length list' → BothRead text bytes a list' k
      unfolding page_of
      both_read ok l =
          let w = list_in (page_of a) bytes list' (drop (4 * k) list) good h.count h.written (omega (arith, h.few)) in
          record { accepted = read_accepted text area long e; page_sound = ok; page_is = same_page; list_accepted = good; in_range = w.0; same = w.1 }

      pub left_read : list' ≡ list_left (or_else (text_refusal text) (list_refusal (page_read text) bytes)) bytes list
      left_read = left (rw good (h.written ∙ ap (λ (k : ℕ). list_codes (list_read bytes) ++ drop (4 * k) list) h.count))
