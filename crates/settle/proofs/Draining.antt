-- An end settled over an index: whoever is reached and does not wait rests, until nobody waits. Assumes nothing.
use mathlib.Core.Path.{◌≡◌, refl, sym, ◌∙◌, ap, subst}
use mathlib.Core.Logic.{◌≢◌, ⊎_elim}
use mathlib.Core.Bool.{Bool, true, false, ◌&&◌, ◌||◌, or-true, true≢false}
use mathlib.Core.List.{List, [], ◌∷◌}
use Prim.Native.Nat.{ℕ, zero, suc, ◌+◌, ◌*◌, ◌≤◌, ◌<◌}
use native.Mathlib.Decide.{ℕ_discrete}
use native.Mathlib.Omega.{arith}
use lib.Dec.{eqb}
use lib.ListN.{length, get_or, drop}
use Rattle.fixpoint.proofs.Cond.{by_bool}
use Rattle.semantics.specs.Area.{line_at, page_of, top_of, conditions_of, count_of}
use Rattle.semantics.specs.Grade.{End}
use Rattle.semantics.specs.Page.{Line, fact, rule, query, default}
use Rattle.semantics.specs.Table.{member}
use Rattle.page.specs.Places.{place_of, LineIn}
use Rattle.page.proofs.Head.{head_of}
use Rattle.page.proofs.Scanning.{lines_left, lines_first}
use Rattle.page.proofs.LineNumbers.{line_in, lines_from, line_of}
use Rattle.bits.specs.Sets.{Nobody, Member}
use Rattle.bits.specs.Words.{has, Removed}
use Rattle.index.specs.Readers.{among, lines_read}
use Rattle.index.specs.Lookup.{LinesAre}
use Rattle.value.specs.Table.{end_of}
use Rattle.settle.specs.Scratch.{held, room_at, Lookable, Looked, RestsAt, Settled}
use Rattle.settle.specs.Waiting.{WaitSet, Woken, Waiting}
use Rattle.bits.proofs.Members.{waiters, else_same}
use Rattle.settle.proofs.Members.{rest_in}
use Rattle.settle.proofs.Raising.{E, rests_by}
use Rattle.settle.proofs.Settling.{Settling, settling_next, settling_last}
use Rattle.page.specs.Solvable.{solvable}

-- what a line reads its page reads
pub read_cons : (code : ℕ) (l : Line) (ls : List Line) (c : ℕ) → lines_read code (l ∷ ls) c ≡ (lines_read code (l ∷ []) c || lines_read code ls c)
unfolding lines_read
read_cons code (fact d x y) ls c = refl
read_cons code (rule d w op lits) ls c = go (eqb d c && among code lits)
  where
    go : (t : Bool) → (t || lines_read code ls c) ≡ ((t || false) || lines_read code ls c)
    go true = refl
    go false = refl
read_cons code (query r d) ls c = refl
read_cons code (default d) ls c = refl

module _ (a : List ℕ) (ok : solvable a ≡ true) (code c : ℕ) where
  read_from : (m k : ℕ) → k + m < count_of a → lines_read code (line_at (drop (place_of a (k + m)) a) ∷ []) c ≡ true → lines_read code (lines_left a (place_of a k) k) c ≡ true
  read_from zero k l r =
      let q : k + 0 ≡ k = omega arith in
      let r' : lines_read code (line_at (drop (place_of a k) a) ∷ []) c ≡ true = subst (λ (j : ℕ). lines_read code (line_at (drop (place_of a j) a) ∷ []) c ≡ true) q r in
      rw (lines_from a ok k (omega arith)) (read_cons code _ _ c ∙ rw r')
  read_from (suc m) k l r =
      let r' : lines_read code (line_at (drop (place_of a (suc k + m)) a) ∷ []) c ≡ true
      = subst (λ (j : ℕ). lines_read code (line_at (drop (place_of a j) a) ∷ []) c ≡ true) {x = k + suc m} (omega arith) r in
      rw (lines_from a ok k (omega arith)) (read_cons code _ _ c ∙ rw (read_from m (suc k) (omega arith) r', or-true))

  pub read_in : (at : ℕ) → LineIn a at → lines_read code (line_at (drop at a) ∷ []) c ≡ true → lines_read code (page_of a).lines c ≡ true
  unfolding page_of place_of
  read_in at x r =
      rw (← lines_first a)
      (read_from x.number 0 (omega (arith, x.in_count))
      (subst (λ (j : ℕ). lines_read code (line_at (drop (place_of a j) a) ∷ []) c ≡ true) {x = x.number} {y = 0 + x.number} (omega arith) (subst (λ (j : ℕ). lines_read code (line_at (drop j a) ∷ []) c ≡ true) x.place r)))

-- the lines of a condition
module _ (a places : List ℕ) {c : ℕ} (g : LinesAre a c places) where
  pub group_lookable : Lookable a places
  group_lookable i u = line_in (g.only i u)

  module _ {e : End} {m : List Bool} {s s' : List ℕ} {t : Bool} (r : Looked e a m (λ i. get_or places i 0) (length places) s s' t) where
    -- no other condition rose
    pub group_alone : (b : ℕ) → b < conditions_of a → b ≢ c → end_of e (held (conditions_of a) s' b) ≡ end_of e (held (conditions_of a) s b)
    group_alone b k d = r.only b k (λ i u q. d (sym q ∙ (g.only i u).head))

    -- and if c does not read itself, or did not rise, it rests
    pub group_rests : solvable a ≡ true → c < conditions_of a
        → (lines_read (2 * c) (page_of a).lines c ≡ true → end_of e (held (conditions_of a) s' c) ≡ end_of e (held (conditions_of a) s c)) → member m c ≡ true → RestsAt e a s' c
    group_rests ok real h q =
        rests_by ok r.half c real q
        (λ j u p d.
        let y = g.every (place_of a j) (line_of (top_of a) (held (conditions_of a) s') c a j u d) in
        let z : get_or places y.0 0 ≡ place_of a j = y.2 in
        r.covered y.0 y.1 c real q
        (λ b o f. elim (ℕ_discrete b c) [
          | yes k ↦ subst (λ (x : ℕ). end_of e (held (conditions_of a) s' x) ≡ end_of e (held (conditions_of a) s x)) (sym k)
              (h (read_in a ok (2 * c) c (get_or places y.0 0) (group_lookable y.0 y.1) (subst (λ (x : ℕ). lines_read (2 * x) (line_at (drop (get_or places y.0 0) a) ∷ []) c ≡ true) k f)))
          | no k ↦ group_alone b o k
        ])
        p (rw z d))

-- what is left to do
abbrev pub left : End → (a s words : List ℕ) → ℕ
left e a s words = room_at e a s * 513 + waiters words

pub record Draining (e : End) (a : List ℕ) (m : List Bool) (s₀ s words : List ℕ) (changed : Bool) : Type 0 where
  pub sound : solvable a ≡ true
  pub settling : Settling e a m s₀ s changed
  pub waiting : Waiting e a m s words

module _ {e : End} {a : List ℕ} {m : List Bool} {s₀ s words : List ℕ} {changed : Bool} (v : Draining e a m s₀ s words changed) where
  pub draining_last : Nobody words → Settled e a m s₀ s changed
  draining_last q =
      settling_last e a m v.sound v.settling (λ c l r. v.waiting.rests c l r (q c (omega (arith, (head_of a v.sound).few))))

  -- c is taken out and its group looked at
  module _ {c : ℕ} (waits : Member words c) (words₁ : List ℕ) (x : Removed c words words₁) where
    c_real : c < conditions_of a
    c_real = v.waiting.set.inside c waits.within waits.found

    -- whoever is out now was out before, or is c
    out_before : (d : ℕ) → d < 512 → d ≢ c → has words₁ d ≡ false → has words d ≡ false
    out_before d l z q = sym (else_same words words₁ c x d l z) ∙ q

    set₁ : WaitSet (conditions_of a) words₁
    set₁ = rest_in words words₁ c x v.waiting.set

    module _ {places : List ℕ} (g : LinesAre a c places) {s' : List ℕ} {t : Bool} (r : Looked e a m (λ i. get_or places i 0) (length places) s s' t) where
      abbrev n : ℕ
      n = conditions_of a

      few : n ≤ 512
      few = (head_of a v.sound).few

      -- nothing rose
      pub draining_still : t ≡ false → Draining e a m s₀ s' words₁ changed
      draining_still z =
          let q : s' ≡ s = r.still z in
          record {
            sound = v.sound;
            settling = subst (λ (y : List ℕ). Settling e a m s₀ y changed) (sym q) v.settling;
            waiting = record {
              set = set₁;
              rests = λ d l i o. elim (ℕ_discrete d c) [
                | yes k ↦ subst (λ (b : ℕ). RestsAt e a s' b) (sym k)
                    (group_rests a places g r v.sound c_real (λ f. ap (λ (y : List ℕ). end_of e (held n y c)) q) (sym (ap (member m) k) ∙ i))
                | no k ↦ subst (λ (y : List ℕ). RestsAt e a y d) (sym q) (v.waiting.rests d l i (out_before d (omega (arith, few)) k o))
              ];
            };
          }

      -- c rose, and whoever names it plainly waits
      module _ {indexed : Bool} (there : indexed ≡ true) {words₂ : List ℕ} (w : Woken a indexed (2 * c) words₁ words₂) where
        -- whoever does not wait does not read c
        reads_not : (d : ℕ) → has words₂ d ≡ false → lines_read (2 * c) (page_of a).lines d ≡ true → ⊥
        reads_not d o f = ⊎_elim (λ z. true≢false (sym there ∙ z)) (λ k. true≢false (sym (k d f) ∙ o)) w.woken

        out₁ : (d : ℕ) → d < 512 → has words₂ d ≡ false → has words₁ d ≡ false
        out₁ d l o = by_bool (has words₁ d) (λ y. absurd (true≢false (sym (w.kept d l y) ∙ o))) (λ y. y)

        other_rests : (d : ℕ) → d < n → d ≢ c → member m d ≡ true → has words₂ d ≡ false → RestsAt e a s' d
        unfolding page_of
        other_rests d l k z o =
            omega (
              arith,
              (E a v.sound).local_end e (held n s') (held n s) d l
                  (λ b i f. elim (ℕ_discrete b c) [
                    | yes y ↦ absurd (reads_not d o (subst (λ (j : ℕ). lines_read (2 * j) (page_of a).lines d ≡ true) y f))
                    | no y ↦ group_alone a places g r b i y
                  ])
                  (λ b i f. r.steady.others b i),
              v.waiting.rests d l z (out_before d (omega (arith, few)) k (out₁ d (omega (arith, few)) o)),
              r.steady.rises d l,
            )

        pub draining_rose : t ≡ true → Draining e a m s₀ s' words₂ true
        draining_rose z =
            record {
              sound = v.sound;
              settling = settling_next e a m v.settling (subst (Looked e a m (λ i. get_or places i 0) (length places) s s') z r);
              waiting = record {
                set = w.set;
                rests = λ d l i o. elim (ℕ_discrete d c) [
                  | yes k ↦ subst (λ (b : ℕ). RestsAt e a s' b) (sym k)
                      (group_rests a places g r v.sound c_real (λ f. absurd (reads_not c (sym (ap (has words₂) k) ∙ o) f)) (sym (ap (member m) k) ∙ i))
                  | no k ↦ other_rests d l k i o
                ];
              };
            }
