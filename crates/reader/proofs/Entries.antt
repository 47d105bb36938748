-- The entries that the second pass writes, one after the other. Assumes nothing.
use mathlib.Core.Path.{◌≡◌, sym, ◌∙◌, ap}
use mathlib.Core.Bool.{true}
use mathlib.Core.List.{List, [], ◌∷◌, ◌++◌}
use Prim.Native.Nat.{ℕ, suc, ◌+◌, ◌≤◌, ◌<◌}
use native.Mathlib.Omega.{arith}
use lib.ListN.{length, get_or, drop, drop_of_length-le, length-append}
use lib.Seq.{sets, length-sets}
use Rattle.semantics.specs.Area.{line_code, line_codes}
use Rattle.semantics.specs.Text.{text_lines, fields_of, has_form, line_in, lines_in}
use Rattle.semantics.specs.ReadPage.{bad_line}
use Rattle.semantics.proofs.ReadLines.{GoodLine, good_line}
use Rattle.fields.specs.Cursor.{fields_at, lines_after}
use Rattle.reader.specs.Checks.{entries_of, LinesFit}
use Rattle.reader.specs.Entries.{LineFits, LinePut}
use Rattle.reader.proofs.LinePlaces.{line_here}
use Rattle.reader.proofs.Passes.{entries_here}
use Rattle.reader.proofs.Writes.{sets_append}

-- The entries from the place `from` of the text on stand in the area from `start` on, as far as the place i of the text and the place e of the area.
pub record Writing (s : List ℕ) (from : ℕ) (area₀ : List ℕ) (start : ℕ) (area : List ℕ) (i e : ℕ) : Type 0 where
  pub written : sets area₀ start (entries_of s from) ≡ sets area e (entries_of s i)
  pub same : length area ≡ length area₀
  pub fits : LinesFit s i area e

module _ (s : List ℕ) (from : ℕ) (area₀ : List ℕ) (start : ℕ) {area : List ℕ} {i e : ℕ} (w : Writing s from area₀ start area i e) where
  pub writing_done : length s ≤ i → area ≡ sets area₀ start (entries_of s from)
  unfolding text_lines lines_in line_codes
  writing_done h = sym (w.written ∙ rw (drop_of_length-le s h))

  module _ (h : i < length s) where
    -- the line is good, and those behind it
    good_here : GoodLine w.fits.top w.fits.n w.fits.k w.fits.before (get_or (text_lines (drop i s)) 0 []) (lines_after (drop i s))
    good_here =
        let f = w.fits in
        good_line f.top f.n f.k f.before (get_or (text_lines (drop i s)) 0 []) (lines_after (drop i s))
        (ap (bad_line f.top f.n f.k f.before) (sym (line_here s i h)) ∙ f.good)

    form_here : has_form (fields_at (drop i s)) ≡ true
    unfolding fields_at
    form_here = good_here.form

    -- its entry fits
    entry_room : e + length (line_code (line_in (fields_at (drop i s)))) ≤ length area
    entry_room =
        let c = line_code (line_in (fields_at (drop i s))) in
        omega (arith, w.fits.room, ap length (entries_here s i h), length-append c (line_codes (lines_in (lines_after (drop i s)))))

    pub line_fits : LineFits s i area e
    line_fits =
        record { formed = record { place = record { inside = h; ended = w.fits.text.ended }; form = form_here }; room = entry_room }

    pub writing_next : {area' : List ℕ} {next end : ℕ} → LinePut s i area e area' next end → Writing s from area₀ start area' next end
    writing_next {area'} {next} {end} y =
        let c = line_code (line_in (fields_at (drop i s))) in
        let on : entries_of s i ≡ c ++ entries_of s next = rw y.ends.lines at (entries_here s i h) in
        let size : length area' ≡ length area = ap length y.entry.put ∙ length-sets area e c in
        record {
          written = w.written ∙ ap (sets area e) on ∙ sym (sets_append area e c (entries_of s next)) ∙ rw (← y.entry.put, ← y.entry.size);
          same = size ∙ w.same;
          fits = record {
            top = w.fits.top;
            n = w.fits.n;
            k = suc w.fits.k;
            before = line_in (fields_of (get_or (text_lines (drop i s)) 0 [])) ∷ w.fits.before;
            good = ap (bad_line w.fits.top w.fits.n (suc w.fits.k) (line_in (fields_of (get_or (text_lines (drop i s)) 0 [])) ∷ w.fits.before)) (sym y.ends.lines) ∙ good_here.others;
            text = w.fits.text;
            room = omega (arith, w.fits.room, size, ap length on, length-append c (entries_of s next), y.entry.size);
          };
        }
