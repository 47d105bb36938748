-- The lines of a page that a trial leaves, entry by entry. Assumes nothing.
use mathlib.Core.Path.{◌≡◌, refl, sym, ◌∙◌, ap}
use mathlib.Core.Logic.{⊎_elim}
use mathlib.Core.Bool.{Bool, true, false, false≢true}
use mathlib.Core.List.{List, [], ◌∷◌, ◌++◌, append_assoc, append-nil}
use mathlib.Core.Option.{Option, none, some}
use Prim.Native.Nat.{ℕ, ◌+◌, ◌≤◌, ◌<◌}
use native.Mathlib.Decide.{dec_le}
use native.Mathlib.Omega.{arith}
use lib.ListN.{length, get_or, take, drop, length-drop}
use lib.Seq.{length-take-le}
use borrow.Author.Tests.{leb-true}
use Rattle.fixpoint.specs.Interval.{Interval}
use Rattle.semantics.specs.Page.{Line, fact, rule, query, default}
use Rattle.semantics.specs.Area.{kind, line_as, line_at, line_tests, line_code, line_codes, sound, page_of, first_line, conditions_of, count_of, used_of}
use Rattle.semantics.specs.Trials.{TrialLine, tried, kept_if, kept_line, kept_lines}
use Rattle.semantics.proofs.Soundness.{every_true, sound_parts}
use Rattle.semantics.proofs.ExactAreas.{line_back}
use Rattle.semantics.proofs.UsedLength.{used_most}
use Rattle.page.specs.Graded.{SoundEntry}
use Rattle.page.specs.Lines.{step_at, EntryIn, Next, Scanning}
use Rattle.page.proofs.Scan.{rule_kind_lem, fact_kind_lem, over_five, line_at_lem, span_at, entry_in}
use Rattle.page.proofs.Scanning.{lines_left, scanning_begun, lines_first, entry_sound, scanning_next, scanning_moved, lines_moved, lines_none}
use Rattle.change.specs.Trial.{is_given, goes}
use Rattle.change.specs.Written.{PutsLines, LinesKept}
use Rattle.change.specs.declared.Entries.{Entries}
use Rattle.change.proofs.Lines.{one_code, lines_length_lem, puts_then, puts_as}
use Rattle.change.proofs.Lines as written

-- which entries go
module _ (ts : List TrialLine) where
  kind_other : (k c x y : ℕ) (lits : List ℕ) → (k ≡ 0 → ⊥) → goes ts (line_as (kind k) c x y lits) ≡ false
  kind_other k c x y lits n =
      elim (dec_le k 5) [
        | yes l ↦ rw (rule_kind_lem k (omega arith) l).1
        | no l ↦ ⊎_elim (λ e. rw e) (⊎_elim (λ e. rw e) (λ e. rw e)) (over_five k (omega arith))
      ]

  module _ (a : List ℕ) (at : ℕ) where
    pub no_fact_stays : (get_or a (at + 1) 0 ≡ 0 → ⊥) → false ≡ goes ts (line_at (drop at a))
    no_fact_stays n = rw (line_at_lem a at) (sym (kind_other (get_or a (at + 1) 0) (get_or a at 0) (get_or a (at + 2) 0) (get_or a (at + 3) 0) _ n))

    pub named_goes : {o : Option Interval} → get_or a (at + 1) 0 ≡ 0 → o ≡ tried ts (get_or a at 0) → is_given o ≡ goes ts (line_at (drop at a))
    named_goes e g = rw (line_at_lem a at, fact_kind_lem (get_or a (at + 1) 0) e) (ap is_given g)

  if_some : (o : Option Interval) (l : Line) → is_given o ≡ true → kept_if o l ≡ []
  if_some none l e = absurd (false≢true e)
  if_some (some p) l e = refl

  if_none : (o : Option Interval) (l : Line) → is_given o ≡ false → kept_if o l ≡ l ∷ []
  if_none none l e = refl
  if_none (some p) l e = absurd (false≢true (sym e))

  pub gone : (l : Line) → goes ts l ≡ true → kept_line ts l ≡ []
  gone (fact c l h) e = if_some (tried ts c) (fact c l h) e
  gone (rule c w op lits) e = absurd (false≢true e)
  gone (query r c) e = absurd (false≢true e)
  gone (default c) e = absurd (false≢true e)

  pub stays : (l : Line) → goes ts l ≡ false → kept_line ts l ≡ l ∷ []
  stays (fact c l h) e = if_none (tried ts c) (fact c l h) e
  stays (rule c w op lits) e = refl
  stays (query r c) e = refl
  stays (default c) e = refl

  -- nothing or the one entry
  kept_short : (l : Line) → (length (kept_line ts l) ≤ 1) × (length (line_codes (kept_line ts l)) ≤ length (line_code l))
  unfolding line_codes
  kept_short l = go (goes ts l) refl
    where
      go : (t : Bool) → goes ts l ≡ t → (length (kept_line ts l) ≤ 1) × (length (line_codes (kept_line ts l)) ≤ length (line_code l))
      go true e = rw (gone l e) (omega arith, omega arith)
      go false e = rw (stays l e) (omega arith, omega (arith, ap length (one_code l)))

-- the numbers of the entry at a place are those of its line
module _ {top n left : ℕ} (a : List ℕ) (at : ℕ) (s : SoundEntry top n left a at) where
  pub entry_code : take (step_at a at) (drop at a) ≡ line_code (line_at (drop at a))
  entry_code =
      rw (sym (span_at top n left a at))
      (line_back top n left (drop at a) (omega (arith, length-drop at a, s.fits)) (every_true (line_tests top n left (drop at a)) s.tests))

  entry_whole : EntryIn a at
  entry_whole = entry_in top n left a at s.fits s.tests

  entry_size : length (line_code (line_at (drop at a))) ≡ step_at a at
  entry_size = ap length (sym entry_code) ∙ length-take-le (step_at a at) (drop at a) (omega (arith, length-drop at a, entry_whole.whole))

-- the head numbers of a sound page
pub record Bounds (a : List ℕ) : Type 0 where
  pub four : 4 ≤ length a
  pub first : first_line a ≤ used_of a
  pub inside : used_of a ≤ length a
  pub few : conditions_of a ≤ 512
  pub lines : count_of a ≤ 1024
  pub most : used_of a ≤ 12804

pub bounds : (a : List ℕ) → sound a ≡ true → Bounds a
bounds a e =
    let h = (sound_parts a e).head in
    record {
      four = leb-true 4 (length a) h.0;
      first = leb-true (first_line a) (used_of a) h.1.0;
      inside = leb-true (used_of a) (length a) h.1.1.0;
      few = leb-true (conditions_of a) 512 h.1.1.1.1.1.1.0;
      lines = leb-true (count_of a) 1024 h.1.1.1.1.1.1.1.0;
      most = used_most a e;
    }

module _ (a : List ℕ) (ts : List TrialLine) (t₀ : Entries) where
  -- the scan stands at `at`, behind k lines; those of them that stay are written
  pub record Keeping (at k : ℕ) (t : Entries) : Type 0 where
    pub scanning : Scanning a at k
    pub lines : count_of a ≤ 1024
    pub kept : List Line
    pub rest : kept_lines ts (page_of a).lines ≡ kept ++ kept_lines ts (lines_left a at k)
    pub puts : PutsLines t₀ kept t
    pub size : length t.area.now ≡ length t₀.area.now
    pub long : used_of a ≤ length t₀.area.now
    pub short : t.end ≤ at
    pub few : t.count ≤ k

  pub keeping_first : {at k : ℕ} → sound a ≡ true → used_of a ≤ length t₀.area.now → (t₀.end ≡ first_line a) × (t₀.count ≡ 0) → (at ≡ first_line a) × (k ≡ 0) → Keeping at k t₀
  keeping_first {at} {k} e l g f =
      let b = bounds a e in
      rw (f.0, f.1) record {
        scanning = scanning_begun a b.first b.inside (sound_parts a e).lines;
        lines = b.lines;
        kept = [];
        rest = ap (kept_lines ts) (sym (lines_first a));
        puts = record { same = refl; wrote = written.lines_none t₀.area.now t₀.end t₀.count (omega (arith, b.first, g.0)) };
        size = refl;
        long = l;
        short = omega (arith, g.0);
        few = omega (arith, g.1);
      }

  module _ {at k : ℕ} {t : Entries} (s : Keeping at k t) where
    module _ (l : k < count_of a) where
      pub entry_room : t.end + step_at a at ≤ length t.area.now
      entry_room = omega (arith, s.short, s.size, s.long, (scanning_next a s.scanning l).in_used)

      pub keeping_next : {at' k' : ℕ} {t' : Entries} → Next a at k at' k' → PutsLines t (kept_line ts (line_at (drop at a))) t' → Keeping at' k' t'
      unfolding kept_lines
      keeping_next {at'} {k'} {t'} m p =
          let w = p.wrote in
          let line = line_at (drop at a) in
          let short = kept_short ts line in
          record {
            scanning = scanning_moved a s.scanning l m;
            lines = s.lines;
            kept = s.kept ++ kept_line ts line;
            rest = s.rest ∙ ap (λ (ls : List Line). s.kept ++ kept_lines ts ls) (lines_moved a s.scanning l m)
                ∙ sym (append_assoc s.kept (kept_line ts line) (kept_lines ts (lines_left a at' k')));
            puts = puts_then s.puts p;
            size = lines_length_lem w ∙ s.size;
            long = s.long;
            short = omega (arith, s.short, m.place, w.codes.behind, short.1, entry_size a at (entry_sound a s.scanning l));
            few = omega (arith, s.few, m.count, w.counted, short.0);
          }

    pub keeping_done : count_of a ≤ k → LinesKept a ts t₀ t
    unfolding kept_lines
    keeping_done l =
        record {
          puts = puts_as (sym (s.rest ∙ ap (λ (ls : List Line). s.kept ++ kept_lines ts ls) (lines_none a at k l) ∙ append-nil s.kept)) s.puts;
          short = omega (arith, s.short, s.scanning.in_used);
          few = omega (arith, s.few, s.scanning.in_count, s.lines);
        }
