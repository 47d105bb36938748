-- The numbers that the second pass writes, line by line. Assumes nothing.
use mathlib.Core.Path.{◌≡◌, sym, ◌∙◌, ap, subst}
use mathlib.Core.Bool.{true}
use mathlib.Core.List.{List, ◌∷◌, ◌++◌}
use Prim.Native.Nat.{ℕ, ◌+◌, ◌≤◌, ◌<◌}
use native.Mathlib.Omega.{arith}
use lib.ListN.{length, drop, drop_of_length-le}
use lib.Seq.{sets, length-sets}
use Rattle.semantics.specs.Text.{text_lines, fields_of}
use Rattle.semantics.specs.Trials.{is_trial, trial_in, trial_lines_in}
use Rattle.fields.specs.Cursor.{InText, fields_at, lines_after}
use Rattle.reader.proofs.LinePlaces.{line_here}
use Rattle.reader.proofs.Writes.{sets_append}
use Rattle.list.specs.declared.parse.Trial.{Trial}
use Rattle.list.specs.Codes.{trial_code, list_codes}
use Rattle.list.specs.Lines.{line_of, line_at, Says}
use Rattle.list.specs.Checks.{AllTrials, codes_from, LinesFit}

-- The numbers of the lines before the place `at` stand in the list, up to the place `end`.
pub record Writing (s list₀ list : List ℕ) (at end : ℕ) : Type 0 where
  pub written : sets list₀ 0 (codes_from s 0) ≡ sets list end (codes_from s at)
  pub same : length list ≡ length list₀
  pub fits : LinesFit s at list end

module _ (s list₀ : List ℕ) {list : List ℕ} {at end : ℕ} (w : Writing s list₀ list at end) where
  pub writing_done : length s ≤ at → list ≡ sets list₀ 0 (codes_from s 0)
  unfolding text_lines trial_lines_in list_codes
  writing_done h = sym (w.written ∙ rw (drop_of_length-le s h))

  module _ (h : at < length s) where
    forms_here : AllTrials (line_at s at ∷ lines_after (drop at s))
    forms_here = subst AllTrials (line_here s at h) w.fits.forms

    pub known_here : InText s at × (is_trial (fields_at (drop at s)) ≡ true)
    unfolding fields_at
    known_here = (record { inside = h; ended = w.fits.ended }, forms_here.0)

    module _ {line : Trial} {next : ℕ} (q : Says s at line next) where
      codes_here : codes_from s at ≡ trial_code (line_of line) ++ codes_from s next
      unfolding trial_lines_in list_codes fields_at
      codes_here =
          ap (λ (ls : List (List ℕ)). list_codes (trial_lines_in ls)) (line_here s at h)
          ∙ ap (λ (ls : List (List ℕ)). trial_code (trial_in (fields_of (line_at s at))) ++ list_codes (trial_lines_in ls)) q.lines
          ∙ ap (λ t. trial_code t ++ codes_from s next) q.is

      pub four_room : end + 4 ≤ length list
      four_room = omega (arith, w.fits.room, ap length codes_here)

      pub writing_next : {list' : List ℕ} → list' ≡ sets list end (trial_code (line_of line)) → Writing s list₀ list' next (end + 4)
      writing_next {list'} e =
          let c = trial_code (line_of line) in
          let size : length list' ≡ length list = ap length e ∙ length-sets list end c in
          record {
            written = w.written ∙ ap (sets list end) codes_here ∙ sym (sets_append list end c (codes_from s next)) ∙ ap (λ (l : List ℕ). sets l (end + 4) (codes_from s next)) (sym e);
            same = size ∙ w.same;
            fits = record {
              forms = subst AllTrials q.lines forms_here.1;
              ended = w.fits.ended;
              room = omega (arith, w.fits.room, size, ap length codes_here);
            };
          }
