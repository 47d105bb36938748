-- The next low ends, noted line by line over the low ends held. Assumes nothing.
use mathlib.Core.Path.{◌≡◌, refl, sym, ◌∙◌, ap, subst}
use mathlib.Core.Logic.{inl, inr, ⊎_elim}
use mathlib.Core.Bool.{Bool, true, false}
use mathlib.Core.List.{List, [], ◌∷◌}
use Prim.Native.Nat.{ℕ, suc, ◌+◌, ◌*◌, ◌-◌, ◌≤◌, ◌<◌}
use native.Mathlib.Decide.{ℕ_discrete}
use native.Mathlib.Omega.{arith}
use lib.ListN.{length, get_or, set, take, drop, length-set}
use lib.Seq.{get_or-set_same, get_or-set_other, drop-set-lt, take-set-le}
use Rattle.fixpoint.specs.Interval.{Interval, Assign}
use Rattle.semantics.specs.Area.{line_at, page_of, top_of, conditions_of, count_of}
use Rattle.semantics.specs.Body.{line_body, T}
use Rattle.semantics.specs.Grade.{lower}
use Rattle.semantics.specs.Table.{member}
use Rattle.page.specs.Lines.{Next}
use Rattle.page.specs.Places.{place_of, LineIn}
use Rattle.page.proofs.Head.{head_of}
use Rattle.page.proofs.LineNumbers.{line_of}
use Rattle.bits.specs.Sets.{Member}
use Rattle.bits.specs.Words.{has, Inserted, Removed}
use Rattle.index.specs.Lookup.{LinesAre}
use Rattle.value.specs.Table.{EndTable, Grades}
use Rattle.value.specs.LineEnds.{LineEnd}
use Rattle.value.proofs.BodyEnds.{body_most}
use Rattle.value.proofs.Defaults.{bodyless_low}
use Rattle.value.proofs.Tables.{table_of_lem}
use Rattle.settle.specs.Waiting.{WaitSet}
use Rattle.bits.proofs.Members.{else_same}
use Rattle.settle.proofs.Members.{rest_in, joined, joins, joined_else}
use Rattle.settle.proofs.Raising.{line_head, added_to, adds_v, v_under}
use Rattle.rounds.specs.Round.{past}
use Rattle.stages.specs.Steps.{ahead, seen, Notable, RisesAt, Noting, Covers, NotedAt, Noted, Ahead, AllNoted}
use Rattle.page.specs.Solvable.{solvable}

module _ (a : List ℕ) (m : List Bool) where
  abbrev n : ℕ
  n = conditions_of a

  pub noting_same : {s moved : List ℕ} → WaitSet n moved → Noting a m s s moved moved
  noting_same w = record { same_length = refl; table = refl; highs = λ c l. refl; beyond = refl; set_in = w; each = λ c l. inl (refl, refl) }

  module _ {s s' moved moved' : List ℕ} (v : Noting a m s s' moved moved') where
    pub no_later : (c : ℕ) → c < n → get_or s' (2 * n + (2 * c + 1)) 0 ≤ get_or s (2 * n + (2 * c + 1)) 0
    no_later c l = ⊎_elim (λ q. omega (arith, q.0)) (λ q. omega (arith, q.less)) (v.each c l)

    pub seen_same : seen a s' ≡ seen a s
    seen_same = ap (past a) v.table

    pub notable_on : Notable a m s moved → Notable a m s' moved'
    notable_on h =
        record {
          long = omega (arith, h.long, v.same_length);
          marked = h.marked;
          grades = subst (Grades (top_of a) n) (sym v.table) h.grades;
          set_in = v.set_in;
        }

    module _ {s'' moved'' : List ℕ} (w : Noting a m s' s'' moved' moved'') where
      pub noting_on : Noting a m s s'' moved moved''
      noting_on =
          record {
            same_length = w.same_length ∙ v.same_length;
            table = w.table ∙ v.table;
            highs = λ c l. w.highs c l ∙ v.highs c l;
            beyond = w.beyond ∙ v.beyond;
            set_in = w.set_in;
            each = λ c l. elim (w.each c l) [
              | inl p ↦ elim (v.each c l) [
                | inl q ↦ inl (p.0 ∙ q.0, p.1 ∙ q.1)
                | inr q ↦ inr (record { reached = q.reached; less = omega (arith, p.0, q.less); below = omega (arith, p.0, q.below); noted = p.1 ∙ q.noted })
              ]
              | inr p ↦ inr (record {
                reached = p.reached;
                less = omega (arith, p.less, no_later c l);
                below = subst (λ (I : Assign). ahead a s'' c ≤ (T (page_of a) I c).low) seen_same p.below;
                noted = p.noted;
              })
            ];
          }

      pub covers_on : (at : ℕ) → Covers a m s s' at → Covers a m s s'' at
      covers_on at h c l r p d = omega (arith, h c l r p d, w_later c l)
        where
          w_later : (c : ℕ) → c < n → get_or s'' (2 * n + (2 * c + 1)) 0 ≤ get_or s' (2 * n + (2 * c + 1)) 0
          w_later c l = ⊎_elim (λ q. omega (arith, q.0)) (λ q. omega (arith, q.less)) (w.each c l)

    pub covers_after : (s'' : List ℕ) (at : ℕ) → Covers a m s' s'' at → Covers a m s s'' at
    covers_after s'' at h c l r p d = h c l r p (subst (λ (I : Assign). line_body (top_of a) I c (line_at (drop at a)) ≡ p ∷ []) (sym seen_same) d)

-- one line
module _ (a : List ℕ) (m : List Bool) (s moved : List ℕ) (at : ℕ) (ok : solvable a ≡ true) (H : Notable a m s moved) (x : LineIn a at) where
  abbrev h : ℕ
  h = get_or a at 0

  abbrev size : ℕ
  size = conditions_of a

  nothing_done : Covers a m s s at → NotedAt a m at s s moved moved
  nothing_done v = record { noting = noting_same a m H.set_in; covers = v }

  pub noted_query : 5 < get_or a (at + 1) 0 → NotedAt a m at s s moved moved
  noted_query q = nothing_done (λ c l r p d. absurd (omega (arith, (added_to x (seen a s) c p d).body)))

  seen_table : EndTable lower (top_of a) size (seen a s) (take (2 * size) s)
  seen_table =
      table_of_lem lower (top_of a) size (seen a s) (take (2 * size) s)
      (λ c l. record { plain = refl; negative = omega (arith, H.grades.grade (2 * c + 1) (omega arith)) })

  module _ {v : ℕ} (w : LineEnd lower a (take (2 * size) s) at v) where
    adds : (c : ℕ) (p : Interval) → line_body (top_of a) (seen a s) c (line_at (drop at a)) ≡ p ∷ [] → (c ≡ h) × (p.low ≡ v)
    adds = adds_v x w (seen a s) seen_table

    pub noted_not : get_or s (2 * size + (2 * h + 1)) 0 ≤ top_of a - v → NotedAt a m at s s moved moved
    noted_not l = nothing_done (λ c k r p d. let y = adds c p d in rw y.0 (omega (arith, y.1, w.grade)))

    -- the line's low end is the next one of its head
    module _ (reached : member m h ≡ true) (over : top_of a - v < get_or s (2 * size + (2 * h + 1)) 0) (moved' : List ℕ) (y : Inserted h moved moved') where
      abbrev s' : List ℕ
      s' = set s (2 * size + (2 * h + 1)) (top_of a - v)

      real : h < size
      real = line_head a ok x

      small : size ≤ 512
      small = (head_of a ok).few

      here : get_or s' (2 * size + (2 * h + 1)) 0 ≡ top_of a - v
      here = get_or-set_same s (2 * size + (2 * h + 1)) (top_of a - v) 0 (omega (arith, H.long, real))

      below' : ahead a s' h ≤ (T (page_of a) (seen a s) h).low
      below' = omega (arith, here, w.grade, v_under x w (seen a s) seen_table ok)

      up : Noting a m s s' moved moved'
      up =
          record {
            same_length = length-set s (2 * size + (2 * h + 1)) (top_of a - v);
            table = take-set-le (2 * size) s (2 * size + (2 * h + 1)) (top_of a - v) (omega arith);
            highs = λ c l. get_or-set_other s (2 * size + (2 * h + 1)) (2 * size + 2 * c) (top_of a - v) 0 (λ q. omega arith);
            beyond = drop-set-lt (4 * size) s (2 * size + (2 * h + 1)) (top_of a - v) (omega (arith, real));
            set_in = joined H.set_in real y;
            each = λ c l. elim (ℕ_discrete c h) [
              | yes z ↦ inr (subst (RisesAt a m s s' moved') (sym z) (record { reached = reached; less = omega (arith, here, over); below = below'; noted = joins moved moved' h (omega (arith, real, small)) y }))
              | no z ↦ inl (get_or-set_other s (2 * size + (2 * h + 1)) (2 * size + (2 * c + 1)) (top_of a - v) 0 (λ q. z (omega arith)), joined_else moved moved' h y c (omega (arith, small)) z)
            ];
          }

      pub noted_up : NotedAt a m at s s' moved moved'
      noted_up = record { noting = up; covers = λ c l r p d. let q = adds c p d in rw q.0 (omega (arith, q.1, here, w.grade)) }

-- in the code's own terms: k is the number of conditions, d the head and t the largest grade
module _ {a : List ℕ} {m : List Bool} {s moved : List ℕ} {at k : ℕ} (ok : solvable a ≡ true) (r : Notable a m s moved × (k ≡ conditions_of a) × LineIn a at) where
  abbrev part : List ℕ
  part = take (2 * k) s

  pub part_grades : Grades (top_of a) (conditions_of a) part
  part_grades = rw r.1 r.0.grades

  module _ {d t : ℕ} (z : d ≡ get_or a at 0) (g : t ≡ top_of a) {v : ℕ} (w : LineEnd lower a part at v) where
    on_table : LineEnd lower a (take (2 * conditions_of a) s) at v
    on_table = rw r.1 at w

    pub not_here : get_or s (2 * k + (2 * d + 1)) 0 ≤ t - v → NotedAt a m at s s moved moved
    not_here l = noted_not a m s moved at ok r.0 r.2 on_table (rw (← r.1, ← z, ← g) l)

    pub up_here : member m d ≡ true → t - v < get_or s (2 * k + (2 * d + 1)) 0 → (moved' : List ℕ) → Inserted d moved moved' → NotedAt a m at s (set s (2 * k + (2 * d + 1)) (t - v)) moved moved'
    up_here q l moved' y =
        rw (r.1, z, g) (noted_up a m s moved at ok r.0 r.2 on_table (rw (← z) q) (rw (← r.1, ← z, ← g) l) moved' (rw z at y))

-- lines one after the other
module _ (a : List ℕ) (m : List Bool) (place : ℕ → ℕ) where
  noted_next : {i : ℕ} {s₀ s s' moved₀ moved moved' : List ℕ} → Noted a m place i s₀ s moved₀ moved → NotedAt a m (place i) s s' moved moved'
      → Noted a m place (i + 1) s₀ s' moved₀ moved'
  noted_next {i} {s₀} {s} {s'} v r =
      record {
        noting = noting_on a m v.noting r.noting;
        covers = λ j u. elim (ℕ_discrete j i) [
          | yes z ↦ subst (λ (k : ℕ). Covers a m s₀ s' (place k)) (sym z) (covers_after a m v.noting s' (place i) r.covers)
          | no z ↦ covers_on a m v.noting r.noting (place j) (v.covers j (omega arith))
        ];
      }

-- the loop over a group
pub record NotingGroup (a : List ℕ) (m : List Bool) (places : List ℕ) (s₀ s moved₀ moved : List ℕ) (i : ℕ) : Type 0 where
  pub notable : Notable a m s moved
  pub noted : Noted a m (λ j. get_or places j 0) i s₀ s moved₀ moved

-- the loop over the page
pub record NotingPage (a : List ℕ) (m : List Bool) (s₀ s moved₀ moved : List ℕ) (at k : ℕ) : Type 0 where
  pub notable : Notable a m s moved
  pub place : at ≡ place_of a k
  pub in_count : k ≤ count_of a
  pub noted : Noted a m (place_of a) k s₀ s moved₀ moved

module _ {a : List ℕ} {m : List Bool} {s₀ s moved₀ moved : List ℕ} {at k : ℕ} (v : NotingPage a m s₀ s moved₀ moved at k) where
  pub page_next : k < count_of a → {s' moved' : List ℕ} {at' k' : ℕ} → NotedAt a m at s s' moved moved' → Next a at k at' k' → NotingPage a m s₀ s' moved₀ moved' at' k'
  unfolding place_of
  page_next l {s'} {moved'} r e =
      let q : suc k ≡ k + 1 = omega arith in
      rw (e.place, e.count)
      (record {
        notable = notable_on a m r.noting v.notable;
        place = rw (← q, v.place);
        in_count = omega arith;
        noted = noted_next a m (place_of a) v.noted (subst (λ (x : ℕ). NotedAt a m x s s' moved moved') v.place r);
      })

-- all lines noted: T makes no more of any
pub page_noted : {a : List ℕ} {m : List Bool} {s s' moved moved' : List ℕ} → solvable a ≡ true → Noted a m (place_of a) (count_of a) s s' moved moved' → AllNoted a m s s' moved moved'
page_noted {a} {m} {s} {s'} ok v =
    record {
      noting = v.noting;
      rests = λ c l r. body_most lower a ok (seen a s) c (ahead a s' c) (λ j u p d. v.covers j u c l r p d) (λ g. omega (arith, bodyless_low a c));
    }

-- the loop over those that wait
pub record NotingWaiting (a : List ℕ) (m : List Bool) (s₀ s moved₀ moved lows : List ℕ) : Type 0 where
  pub notable : Notable a m s moved
  pub noting : Noting a m s₀ s moved₀ moved
  pub lows_in : WaitSet (conditions_of a) lows
  pub rests : (d : ℕ) → d < conditions_of a → member m d ≡ true → has lows d ≡ false → Ahead a s₀ s d

module _ {a : List ℕ} {m : List Bool} {s₀ s moved₀ moved lows : List ℕ} (v : NotingWaiting a m s₀ s moved₀ moved lows) {c : ℕ} (waits : Member lows c) where
  waiting_real : c < conditions_of a
  waiting_real = v.lows_in.inside c waits.within waits.found

  module _ (ok : solvable a ≡ true) (lows₁ : List ℕ) (x : Removed c lows lows₁) {group : List ℕ} (g : LinesAre a c group) {s' moved' : List ℕ}
      (r : Noted a m (λ i. get_or group i 0) (length group) s s' moved moved') where
    few : conditions_of a ≤ 512
    few = (head_of a ok).few

    rests_c : member m c ≡ true → Ahead a s₀ s' c
    rests_c q =
        body_most lower a ok (seen a s₀) c (ahead a s' c)
        (λ j u p d.
        let y = g.every (place_of a j) (line_of (top_of a) (seen a s₀) c a j u d) in
        covers_after a m v.noting s' (get_or group y.0 0) (r.covers y.0 y.1) c waiting_real q p
        (subst (λ (i : ℕ). line_body (top_of a) (seen a s₀) c (line_at (drop i a)) ≡ p ∷ []) (sym y.2) d))
        (λ h. omega (arith, bodyless_low a c))

    pub waiting_next : NotingWaiting a m s₀ s' moved₀ moved' lows₁
    waiting_next =
        record {
          notable = notable_on a m r.noting v.notable;
          noting = noting_on a m v.noting r.noting;
          lows_in = rest_in lows lows₁ c x v.lows_in;
          rests = λ d l q o. elim (ℕ_discrete d c) [
            | yes z ↦ subst (Ahead a s₀ s') (sym z) (rests_c (sym (ap (member m) z) ∙ q))
            | no z ↦ omega (arith, v.rests d l q (sym (else_same lows lows₁ c x d (omega (arith, few)) z) ∙ o), no_later a m r.noting d l)
          ];
        }
