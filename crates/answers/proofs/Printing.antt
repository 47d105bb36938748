-- The Q lines of a page area: what is written for each, and the scan over all lines; then the whole output. Assumes nothing.
use mathlib.Core.Path.{◌≡◌, refl, sym, ◌∙◌, ap, ap₂}
use mathlib.Core.Bool.{true}
use mathlib.Core.List.{List, [], ◌∷◌, ◌++◌, append-nil, append_assoc}
use Prim.Native.Nat.{ℕ, ◌+◌, ◌*◌, ◌-◌, ◌≤◌, ◌<◌}
use native.Mathlib.Decide.{ℕ_discrete}
use native.Mathlib.Nat.{mul-one, mul-add, mul-le-mul_left}
use native.Mathlib.Omega.{arith}
use lib.ListN.{length, get_or, take, drop, length-append}
use borrow.Author.Tests.{leb-true, le-leb, lt-leb}
use Rattle.fixpoint.specs.Interval.{Interval}
use Rattle.semantics.specs.Area.{sound, page_of, top_of, conditions_of, count_of, used_of, line_at, first_line}
use Rattle.semantics.specs.Fields.{joined}
use Rattle.semantics.specs.Page.{Reading, Line, Page}
use Rattle.semantics.specs.ReadPage.{page_read, refused_page, read_page, read_of}
use Rattle.semantics.specs.Output.{Query, queries_of, Answers, AreAnswers, top_fields, answer_fields, end_fields, refusal_fields, printed, answer_lines, page_output, IsOutput, Prints}
use Rattle.semantics.proofs.Outputs.{answers_append, queries_append, queries_most, answer_short, page_output_lem, answers_exist, answers_within, read_refused, read_accepted, page_accepted}
use Rattle.semantics.proofs.ReadProper.{accepted_proper}
use Rattle.semantics.proofs.Soundness.{sound_parts, few_lines}
use Rattle.semantics.proofs.UsedLength.{most_used}
use Rattle.page.specs.Lines.{Next, Scanning}
use Rattle.page.specs.Solvable.{solvable}
use Rattle.page.proofs.Head.{head_of, top_is, conditions_is}
use Rattle.page.proofs.Scan.{entry_head}
use Rattle.page.proofs.Scanning.{lines_left, step, scanning_first, lines_first, entry_ok, lines_on, lines_moved, scanning_moved, lines_none}
use Rattle.page.proofs.Solvable.{solvable_proper}
use Rattle.print.specs.declared.Text.{Text}
use Rattle.print.specs.Wrote.{Wrote}
use Rattle.print.specs.Texts.{Room, Puts}
use Rattle.print.proofs.Writing.{wrote_as, wrote_front, puts_none, puts_then, puts_as, puts_room, puts_fits, puts_front}
use Rattle.solve.specs.Asked.{reading_of}
use Rattle.solve.specs.Figures.{conditions_asked, asked_by, Figures}
use Rattle.solve.proofs.Queries.{a_query, no_query, conditions_length, condition_at}
use Rattle.answers.specs.Printing.{led_lines, SmallFigures, query_at, figured, PutLine, PutLines, PutPage, PutOutput}

-- lines behind lines
led_append : (lead : List ℕ) (xs ys : List (List (List ℕ))) → led_lines lead (xs ++ ys) ≡ led_lines lead xs ++ led_lines lead ys
led_append lead [] ys = refl
led_append lead (x ∷ xs) ys =
    ap (λ (s : List ℕ). (lead ++ joined x) ++ (10 ∷ s)) (led_append lead xs ys) ∙ sym (append_assoc (lead ++ joined x) (10 ∷ led_lines lead xs) (led_lines lead ys))

module _ (page : Page) (lead : List ℕ) where
  -- lines without a Q line
  lines_without : (ls : List Line) → queries_of ls ≡ [] → (t : Text) (count : ℕ) → Room t 0 → PutLines page lead ls count t t count
  lines_without ls e t count h =
      record {
        counted = rw e (omega arith);
        bytes = [];
        short = rw e (omega arith);
        are = λ A a. rw e refl;
        wrote = puts_none t h;
      }

  -- a Q line, and its answer
  lines_one : (ls : List Line) (q : Query) (p : Interval) → queries_of ls ≡ q ∷ [] → ((A : Answers) → AreAnswers page A → p ≡ A q.reading q.condition)
      → {t t' : Text} {count : ℕ} → Puts t (led_lines lead (answer_fields q p ∷ [])) t' → t'.at ≤ t.at + (14 + length lead) → PutLines page lead ls count t t' (count + 1)
  lines_one ls q p e h w l =
      record {
        counted = rw e (omega arith);
        bytes = led_lines lead (answer_fields q p ∷ []);
        short = rw e (omega (arith, l, w.wrote.behind, mul-one (14 + length lead)));
        are = λ A a. rw e (ap (λ (x : Interval). led_lines lead (answer_fields q x ∷ [])) (h A a));
        wrote = w;
      }

  -- lines behind lines
  lines_then : {xs ys : List Line} {t t₁ t₂ : Text} {count count₁ count₂ : ℕ}
      → PutLines page lead xs count t t₁ count₁ → PutLines page lead ys count₁ t₁ t₂ count₂ → PutLines page lead (xs ++ ys) count t t₂ count₂
  lines_then {xs} {ys} p q =
      let e = queries_append xs ys in
      let n = length-append (queries_of xs) (queries_of ys) in
      record {
        counted = rw e (omega (arith, n, p.counted, q.counted));
        bytes = p.bytes ++ q.bytes;
        short = rw (e, n)
            (omega (arith, length-append p.bytes q.bytes, mul-add (14 + length lead) (length (queries_of xs)) (length (queries_of ys)), p.short, q.short));
        are = λ A a. rw (e, answers_append A (queries_of xs) (queries_of ys), led_append lead (answer_lines A (queries_of xs)) (answer_lines A (queries_of ys)))
            (ap₂ {C = List ℕ} (λ (x y : List ℕ). x ++ y) (p.are A a) (q.are A a));
        wrote = puts_then p.wrote q.wrote;
      }

-- what one line leaves
module _ (a plain closed lead : List ℕ) (line count : ℕ) (t : Text) where
  pub put_one : get_or a line 0 < 1000 → SmallFigures plain closed (reading_of (get_or a (line + 2) 0)) count → get_or a (line + 1) 0 ≡ 6 → {t₁ t₂ : Text}
      → Puts t lead t₁ → Puts t₁ (printed (answer_fields (query_at a line) (figured plain closed (reading_of (get_or a (line + 2) 0)) count) ∷ [])) t₂
      → PutLine a line plain closed lead count t t₂ (count + 1)
  put_one c s e w v =
      let q = query_at a line in
      let p = figured plain closed (reading_of (get_or a (line + 2) 0)) count in
      record {
        other = λ n. absurd (n e);
        one = λ k. (puts_as (sym (append_assoc lead (joined (answer_fields q p)) (10 ∷ []))) (puts_then w v), refl);
        short = omega (arith, w.wrote.behind, v.wrote.behind, answer_short q p c s.low s.high);
      }

-- The scan stands at `line`, behind `passed` lines, whose answers are written.
pub record Printing (a lead : List ℕ) (t₀ : Text) (line passed : ℕ) (t : Text) (count : ℕ) : Type 0 where
  pub scan : Scanning a line passed
  pub lines : List Line
  pub size : length lines ≡ passed
  pub whole : lines ++ lines_left a line passed ≡ (page_of a).lines
  pub puts : PutLines (page_of a) lead lines 0 t₀ t count

pub printing_first : (a lead : List ℕ) (t : Text) → solvable a ≡ true → Room t 0 → {line passed : ℕ} → (line ≡ first_line a) × (passed ≡ 0) → Printing a lead t line passed t 0
unfolding queries_of
printing_first a lead t e h q =
    rw (q.0, q.1) (record { scan = scanning_first a e; lines = []; size = refl; whole = lines_first a; puts = lines_without (page_of a) lead [] refl t 0 h })

module _ (a lead : List ℕ) (t₀ : Text) {line passed : ℕ} {t : Text} {count : ℕ} (p : Printing a lead t₀ line passed t count) where
  -- at most so many bytes and one answer for each line passed
  printing_few : count ≤ passed
  printing_few = omega (arith, p.puts.counted, queries_most p.lines, p.size)

  pub printing_room : passed < count_of a → Room t₀ ((14 + length lead) * count_of a) → Room t (14 + length lead)
  printing_room l h =
      let n : count + 1 ≤ count_of a = omega (arith, printing_few) in
      let w = 14 + length lead in
      let e : count ≡ length (queries_of p.lines) = omega (arith, p.puts.counted) in
      let s : length p.puts.bytes ≤ w * count = rw e p.puts.short in
      puts_room w p.puts.wrote (omega (arith, h, s, mul-le-mul_left w n, mul-add w count 1, mul-one w))

  -- a Q line here is the query with the number `count`
  module _ (l : passed < count_of a) (e : get_or a (line + 1) 0 ≡ 6) where
    asked_here : (get_or (asked_by (page_of a).lines) count 0 ≡ get_or a line 0) × (count < length (asked_by (page_of a).lines))
    asked_here =
        let x = line_at (drop line a) in
        let ls = lines_left a (line + step a p.scan l) (passed + 1) in
        let q = query_at a line in
        let xs = queries_of p.lines in
        let n : length xs ≡ count = omega (arith, p.puts.counted) in
        let f : queries_of (page_of a).lines ≡ xs ++ (q ∷ queries_of ls) =
        ap queries_of (sym p.whole ∙ ap (λ (ys : List Line). p.lines ++ ys) (lines_on a p.scan l))
        ∙ queries_append p.lines (x ∷ ls) ∙ ap (λ (ys : List Query). xs ++ ys) (queries_append (x ∷ []) ls ∙ ap (λ (ys : List Query). ys ++ queries_of ls) (a_query a line e)) in (
          ap (λ (qs : List Query). get_or (conditions_asked qs) count 0) f ∙ ap (λ (k : ℕ). get_or (conditions_asked (xs ++ (q ∷ queries_of ls))) k 0) (sym n) ∙ condition_at xs q (queries_of ls),
          omega (arith, n, conditions_length (queries_of (page_of a).lines), ap length f, length-append xs (q ∷ queries_of ls)),
        )

    module _ {plain closed : List ℕ} (f : Figures (page_of a) plain closed) (r : Reading) where
      -- so its figures are its answer
      figured_here : (A : Answers) → AreAnswers (page_of a) A → figured plain closed r count ≡ A r (get_or a line 0)
      figured_here A h =
          let x = f.low A h r count asked_here.1 ∙ ap (λ (c : ℕ). (A r c).low) asked_here.0 in
          let y = f.high A h r count asked_here.1 ∙ ap (λ (c : ℕ). (A r c).high) asked_here.0 in
          λ i. record { low = x i; high = y i }

      -- and grades
      pub small_here : solvable a ≡ true → SmallFigures plain closed r count
      small_here ok =
          let w = solvable_proper a ok in
          let k = head_of a ok in
          let A = answers_exist (page_of a) w in
          let c = entry_head (top_of a) (conditions_of a) (used_of a - line) a line (entry_ok a p.scan l) in
          let i = answers_within (page_of a) w A.1 r (get_or a line 0) (rw (conditions_is a) c) in
          let g = figured_here A.0 A.1 in
          record {
            within = omega (arith, printing_few, k.count);
            low = omega (arith, ap (λ (x : Interval). x.low) g, i.low_in, top_is a, k.top_most);
            high = omega (arith, ap (λ (x : Interval). x.high) g, i.high_in, top_is a, k.top_most);
          }

  -- what is written for the line here
  puts_here : passed < count_of a → {plain closed : List ℕ} → Figures (page_of a) plain closed → {t' : Text} {count' : ℕ} → PutLine a line plain closed lead count t t' count'
      → PutLines (page_of a) lead (line_at (drop line a) ∷ []) count t t' count'
  puts_here l {plain} {closed} f {t'} {count'} w =
      let ls = line_at (drop line a) ∷ [] in
      elim (ℕ_discrete (get_or a (line + 1) 0) 6) [
        | yes e ↦
            let r = reading_of (get_or a (line + 2) 0) in
            rw (w.one e).1 (lines_one (page_of a) lead ls (query_at a line) (figured plain closed r count) (a_query a line e) (figured_here l e f r) (w.one e).0 w.short)
        | no n ↦
            let o = w.other n in
            rw (o.0, o.1) (lines_without (page_of a) lead ls (no_query a line (entry_ok a p.scan l) n) t count (puts_fits p.puts.wrote))
      ]

  pub printing_next : passed < count_of a → {plain closed : List ℕ} → Figures (page_of a) plain closed → {t' : Text} {count' line' passed' : ℕ}
      → PutLine a line plain closed lead count t t' count' → Next a line passed line' passed' → Printing a lead t₀ line' passed' t' count'
  printing_next l f {t'} {count'} {line'} {passed'} w m =
      let x = line_at (drop line a) in
      record {
        scan = scanning_moved a p.scan l m;
        lines = p.lines ++ (x ∷ []);
        size = length-append p.lines (x ∷ []) ∙ omega (arith, p.size, m.count);
        whole = append_assoc p.lines (x ∷ []) (lines_left a line' passed') ∙ ap (λ (ls : List Line). p.lines ++ ls) (sym (lines_moved a p.scan l m)) ∙ p.whole;
        puts = lines_then (page_of a) lead p.puts (puts_here l f w);
      }

  pub printing_last : count_of a ≤ passed → PutLines (page_of a) lead (page_of a).lines 0 t₀ t count
  printing_last l =
      let e : p.lines ≡ (page_of a).lines = sym (append-nil p.lines) ∙ ap (λ (ls : List Line). p.lines ++ ls) (sym (lines_none a line passed l)) ∙ p.whole in
      rw e at p.puts

-- The output for a page: its first line, the answers, and its last line.
pub count_few : (a : List ℕ) → sound a ≡ true → count_of a ≤ 1024
count_few a ok = leb-true (count_of a) 1024 (sound_parts a ok).head.1.1.1.1.1.1.1.0

pub lines_few : (a : List ℕ) → sound a ≡ true → length (queries_of (page_of a).lines) ≤ 1024
lines_few a ok = omega (arith, queries_most (page_of a).lines, few_lines 1024 a ok)

pub puts_page : (a : List ℕ) {t t₁ t₂ t₃ : Text} {count : ℕ} → Puts t (printed (top_fields (top_of a) ∷ [])) t₁ → PutLines (page_of a) [] (page_of a).lines 0 t₁ t₂ count
    → Puts t₂ (printed (end_fields count ∷ [])) t₃ → PutPage (page_of a) t t₃
puts_page a {count = count} top lines end A h =
    let qs = queries_of (page_of a).lines in
    let e : count ≡ length qs = omega (arith, lines.counted) in
    puts_as (sym (page_output_lem (page_of a) A))
    (puts_then (puts_as (ap (λ (n : ℕ). printed (top_fields n ∷ [])) (sym (top_is a))) top)
    (puts_then (puts_as (lines.are A h) lines.wrote) (puts_as (ap (λ (n : ℕ). printed (end_fields n ∷ [])) e) end)))

-- The output for a text, from what reading it answered.
module _ (text area : List ℕ) (long : most_used ≤ length area) {t t' : Text} where
  pub puts_refusal : {number line place : ℕ} → refused_page number line place ≡ (read_of text area).answer
      → Puts t (printed (refusal_fields number line ∷ [])) t' → PutOutput text t t'
  unfolding IsOutput
  puts_refusal {number} {line} e w =
      record {
        output = printed (refusal_fields number line ∷ []);
        is_output = rw (read_refused text area long e);
        wrote = w;
      }

  pub puts_read : {used : ℕ} {a : List ℕ} → read_page used ≡ (read_of text area).answer → a ≡ (read_of text area).area → PutPage (page_of a) t t' → PutOutput text t t'
  unfolding IsOutput
  puts_read {used} {a} e q w =
      let f = read_accepted text area long e in
      let x = answers_exist (page_read text) (accepted_proper text f) in
      let g : PutPage (page_read text) t t' = rw (q, page_accepted text area long f) at w in
      record {
        output = page_output (page_read text) x.0;
        is_output = rw f (record { answers = x.0; are = x.1; is = refl });
        wrote = g x.0 x.1;
      }

-- The output, copied to a slice with room for it; one without is left.
module _ {text : List ℕ} {t t' : Text} (z : t.at ≡ 0) (p : PutOutput text t t') where
  output_length : t'.at ≡ length p.output
  output_length = omega (arith, p.wrote.wrote.behind)

  pub prints_whole : {out out' bytes : List ℕ} {m : ℕ} → t'.at ≤ length out → bytes ≡ take t'.at t'.out.now → Wrote out 0 bytes out' m → Prints text out out' t'.at
  prints_whole {out} {out'} h e w =
      let v = wrote_as (e ∙ puts_front z p.wrote) w in
      record {
        output = p.output;
        is_output = p.is_output;
        size_is = output_length;
        left = rw (le-leb (length p.output) (length out) (omega (arith, output_length))) (wrote_front v);
      }

  pub prints_nothing : (out : List ℕ) → length out < t'.at → Prints text out out t'.at
  prints_nothing out h =
      record {
        output = p.output;
        is_output = p.is_output;
        size_is = output_length;
        left = rw (lt-leb (length p.output) (length out) (omega (arith, output_length)));
      }
