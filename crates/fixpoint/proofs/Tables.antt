-- The two ways to compute the closed reading, told of tables that are right on what is reached. Assumes nothing.
use mathlib.Core.Path.{◌≡◌, refl, sym, ◌∙◌, ap, subst}
use mathlib.Core.Bool.{Bool, true, false}
use Prim.Native.Nat.{ℕ, zero, suc, ◌<◌}
use native.Mathlib.Omega.{arith}
use Rattle.fixpoint.specs.Interval.{Interval, Within, Ordered, Assign}
use Rattle.fixpoint.specs.KnowledgeOrder.{Under, Alike, bottom, unknown}
use Rattle.fixpoint.specs.System.{System, Agrees}
use Rattle.fixpoint.specs.LeastFixpoint.{Operator, iter}
use Rattle.fixpoint.specs.ChaoticIteration.{DependencyClosed}
use Rattle.fixpoint.specs.Support.{close}
use Rattle.fixpoint.specs.WellFounded.{closed, stage}
use Rattle.fixpoint.specs.AlternatingFixpoint.{merge, mix, floor, highs, lift, lows, turn, turns}
use Rattle.fixpoint.specs.Reachable.{IsCount, HighLocal, Unseen}
use Rattle.fixpoint.specs.Tables.{Turned, Topped, Staged, Roofed}
use Rattle.fixpoint.proofs.KnowledgeOrder.{under_trans, under_eq}
use Rattle.fixpoint.proofs.Merge.{merge_eq}
use Rattle.fixpoint.proofs.LeastFixpoint.{lfp_fixed}
use Rattle.fixpoint.proofs.PlainReading.{operator}
use Rattle.fixpoint.proofs.AlternatingHalves.{LowIn, lift_operator, lift_anti, lows_within, highs_anti}
use Rattle.fixpoint.proofs.AlternatingFixpoint.{turns_within, turns_grow, turns_floor, turns_rise, turns_ordered}
use Rattle.fixpoint.proofs.Reachable.{T_alike, highs_alike, lift_alike, lows_alike}
use Rattle.fixpoint.proofs.ClosedRounds.{stage_next, stage_high, stage_same}
use Rattle.fixpoint.proofs.AlternatingRounds.{turns_closed}
use Rattle.fixpoint.proofs.ChaoticIteration.{kept_from}
use Rattle.fixpoint.proofs.ChaoticHalves.{lift_system, KeptHighs, highs_done, KeptLows, lows_done}

low_eq : {p q : Interval} → p ≡ q → p.low ≡ q.low
low_eq e = ap (λ (r : Interval). r.low) e

high_eq : {p q : Interval} → p ≡ q → p.high ≡ q.high
high_eq e = ap (λ (r : Interval). r.high) e

module _ {n top : ℕ} {T : Assign → ℕ → Interval} {names : ℕ → ℕ → Bool} (S : System n top T names)
    {reached : ℕ → Bool} (shut : DependencyClosed n names reached) (free : ℕ → Bool) where
  abbrev O : Operator n top T
  O = operator S

  abbrev itself : (I : Assign) → Alike n reached (T I) (T I)
  itself I c l r = refl

  abbrev even : (c : ℕ) → c < n → reached c ≡ true → free c ≡ free c
  even c l r = refl

  abbrev Rest : (ℕ → Bool) → Type 0
  Rest W = (c : ℕ) → c < n → W c ≡ false

  pub turned_first : {L : Assign} → ((c : ℕ) → c < n → reached c ≡ true → floor top free L c ≡ unknown top)
      → Turned n top T free reached 0 L
  unfolding turns iter bottom
  turned_first z = record { turned = z }

  floors : {k : ℕ} {L : Assign} → Turned n top T free reached k L
      → Alike n reached (floor top free L) (floor top free (turns n top T free k))
  floors {k} t c l r = t.turned c l r ∙ sym (turns_floor O free k c l)

  -- a run at rest over the floor of L holds the high ends, as its low ends
  pub turned_highs : {k : ℕ} {L : Assign} → Turned n top T free reached k L → (w : LowIn O free L) {X : Assign} {W : ℕ → Bool} {m : ℕ}
      → KeptHighs S free L w reached X W m → Rest W
      → {H : Assign} → ((c : ℕ) → c < n → reached c ≡ true → free c ≡ false → (H c).high ≡ (X c).low) → Topped n top T free reached k H
  turned_highs {k} {L} t w K q h =
      record { topped = λ c l r e. h c l r e ∙ highs_done S free L w shut K q c l r ∙ high_eq (highs_alike S shut itself even L (turns n top T free k) (floors t) c l r) }

  -- over the high ends of round k the least floor is the next one, and ordered
  next_floor : {k : ℕ} {H : Assign} → Topped n top T free reached k H → Alike n reached (lows n top T free H) (turns n top T free (suc k))
  unfolding turns iter turn
  next_floor {k} {H} t = lows_alike S shut itself even H (highs n top T free (turns n top T free k)) t.topped

  pub topped_sane : Agrees n T → {k : ℕ} {H : Assign} → Topped n top T free reached k H → (c : ℕ) → c < n → reached c ≡ true
      → Ordered (lows n top T free H c)
  topped_sane G {k} t c l r = subst Ordered (sym (next_floor t c l r)) (turns_ordered O free G (suc k) c l)

  pub turned_ordered : Agrees n T → {k : ℕ} {L : Assign} → Turned n top T free reached k L → (c : ℕ) → c < n → reached c ≡ true
      → Ordered (floor top free L c)
  turned_ordered G {k} t c l r = subst Ordered (sym (t.turned c l r)) (turns_ordered O free G k c l)

  -- a run at rest over the high ends of H holds the next floor
  pub turned_lows : {k : ℕ} {H : Assign} → Topped n top T free reached k H → {X : Assign} {W : ℕ → Bool} {m : ℕ}
      → KeptLows S free H reached X W m → Rest W → Turned n top T free reached (suc k) X
  turned_lows {k} {H} t K q =
      record { turned = λ c l r. ap (λ (p : Interval). merge (free c) p (unknown top)) (lows_done S free H shut K q c l r ∙ next_floor t c l r) ∙ turns_floor O free (suc k) c l }

  -- where the next floor is the same, both halves are the closed reading
  turned_still : {k : ℕ} {L M : Assign} → Turned n top T free reached k L → Turned n top T free reached (suc k) M
      → Alike n reached (floor top free L) (floor top free M)
      → Alike n reached (turns n top T free k) (turns n top T free (suc k))
  turned_still t t' e b m a = sym (t.turned b m a) ∙ e b m a ∙ t'.turned b m a

  pub turned_closed : {k : ℕ} {L H M : Assign} → Turned n top T free reached k L → Topped n top T free reached k H
      → Turned n top T free reached (suc k) M
      → Alike n reached (floor top free L) (floor top free M) → Alike n reached (mix free L H) (closed n top T free)
  turned_closed {k} {L} {H} t h t' e c l r =
      merge_eq (free c) top (L c) (turns n top T free k c) (H c) (highs n top T free (turns n top T free k) c) (floors t c l r) (h.topped c l r) ∙ turns_closed S shut free k (turned_still t t' e) c l r

  pub turned_moving : {k : ℕ} {L M : Assign} → Turned n top T free reached k L → Turned n top T free reached (suc k) M
      → ¬ Alike n reached (floor top free L) (floor top free M)
      → ¬ Alike n reached (turns n top T free k) (turns n top T free (suc k))
  turned_moving t t' d e = d (λ c l r. t.turned c l r ∙ e c l r ∙ sym (t'.turned c l r))

  -- the floor of a round is a start for that of the next
  turns_post : (k c : ℕ) → c < n
      → Under (turns n top T free k c) (lift top T free (highs n top T free (turns n top T free k)) (turns n top T free k) c)
  unfolding turns iter bottom turn lows
  turns_post zero c l = omega (arith, (lift_operator O free (highs n top T free (turns n top T free 0))).bounded (bottom top) (λ b m. turns_within O free 0 b m) c l)
  turns_post (suc k) c l =
      under_trans (under_eq (lfp_fixed (lift_operator O free (highs n top T free (turns n top T free k))) c l))
      (lift_anti O free (turns n top T free (suc k)) (highs n top T free (turns n top T free (suc k))) (highs n top T free (turns n top T free k)) (λ b m e. highs_anti O free (turns n top T free k) (turns n top T free (suc k)) (turns_rise O free k) b m) c l)

  -- a run over the next high ends may start from the floor of L; whoever does not read a changed end need not wait
  pub turned_start : {k : ℕ} {L H : Assign} {W : ℕ → Bool} → Turned n top T free reached k L → Topped n top T free reached k H
      → ((c : ℕ) → c < n → Within top (L c)) → ((c : ℕ) → c < n → Ordered (L c)) → ((c : ℕ) → c < n → floor top free L c ≡ L c)
      → ((c : ℕ) → c < n → reached c ≡ false → L c ≡ unknown top)
      → ((c : ℕ) → c < n → W c ≡ true → reached c ≡ true) → ((c : ℕ) → c < n → reached c ≡ true → W c ≡ false → L c ≡ lift top T free H L c)
      → KeptLows S free H reached L W 0
  turned_start {k} {L} {H} t h w o v z i s =
      kept_from (lift_system S free H) (λ c l. go c l (reached c) refl) o w grows i s
    where
      at : Alike n reached L (turns n top T free k)
      at c l r = sym (v c l) ∙ t.turned c l r

      go : (c : ℕ) → c < n → (b : Bool) → reached c ≡ b → Under (L c) (lows n top T free H c)
      go c l true r = under_trans (under_eq (at c l r)) (under_trans (turns_grow O free k c l) (under_eq (sym (next_floor h c l r))))
      go c l false r = under_trans (under_eq (z c l r)) (omega (arith, lows_within O free H c l))

      grows : (c : ℕ) → c < n → reached c ≡ true → Under (L c) (lift top T free H L c)
      grows c l r =
          under_trans (under_eq (at c l r))
          (under_trans (turns_post k c l) (under_eq (sym (lift_alike S shut itself even H (highs n top T free (turns n top T free k)) h.topped L (turns n top T free k) (floors t) c l r))))

  -- the rounds of the closed reading, one by one
  pub staged_first : {I : Assign} → Alike n reached I (bottom top) → Staged n top T free reached 0 I
  unfolding stage iter
  staged_first h = record { staged = h }

  staged_floors : {k : ℕ} {I : Assign} → Staged n top T free reached k I
      → Alike n reached (floor top free I) (floor top free (stage n top T free k))
  staged_floors t b m e = ap (λ (p : Interval). merge (free b) p (unknown top)) (t.staged b m e)

  pub staged_highs : {k : ℕ} {I : Assign} → Staged n top T free reached k I → (w : LowIn O free I) {X : Assign} {W : ℕ → Bool} {m : ℕ}
      → KeptHighs S free I w reached X W m → Rest W
      → {H : Assign} → ((c : ℕ) → c < n → reached c ≡ true → free c ≡ false → (H c).high ≡ (X c).low) → Roofed n top T free reached (suc k) H
  staged_highs {k} {I} t w K q h =
      record {
        roofed = λ c l r e.
            h c l r e ∙ highs_done S free I w shut K q c l r ∙ high_eq (highs_alike S shut itself even I (stage n top T free k) (staged_floors t) c l r) ∙ sym (stage_high O free k c l e);
      }

  -- a round: T at the floor of I and the high ends of the next
  staged_mix : {k : ℕ} {I H : Assign} → Staged n top T free reached k I → Roofed n top T free reached (suc k) H
      → Alike n reached (T (mix free I H)) (stage n top T free (suc k))
  staged_mix {k} {I} {H} t h c l r =
      T_alike S shut itself even (mix free I H) (mix free (stage n top T free k) (stage n top T free (suc k)))
      (λ b m a. merge_eq (free b) top (I b) (stage n top T free k b) (H b) (stage n top T free (suc k) b) (staged_floors t b m a) (h.roofed b m a)) c l r
      ∙ sym (stage_next O free k c l)

  pub staged_next : {k : ℕ} {I H J : Assign} → Staged n top T free reached k I → Roofed n top T free reached (suc k) H
      → Alike n reached J (T (mix free I H)) → Staged n top T free reached (suc k) J
  staged_next t h e = record { staged = λ c l r. e c l r ∙ staged_mix t h c l r }

  -- where nothing changed that the support reads, the high ends are there already
  pub staged_kept : {negates : ℕ → ℕ → Bool} → HighLocal n T names negates → {k : ℕ} {I J : Assign} → Staged n top T free reached k I
      → Staged n top T free reached (suc k) J
      → Unseen n names negates free reached I J → Roofed n top T free reached (suc (suc k)) J
  staged_kept {negates} N {k} {I} {J} t t' u = record { roofed = λ c l r e. high_eq (t'.staged c l r) ∙ sym (stage_same S shut free N k unseen c l r e) }
    where
      unseen : Unseen n names negates free reached (stage n top T free k) (stage n top T free (suc k))
      unseen =
          record {
            lows = λ a b l m r f e.
                let s : reached b ≡ true = shut a b l m r (N.named a b l m e) in
                sym (low_eq (t.staged b m s)) ∙ u.lows a b l m r f e ∙ low_eq (t'.staged b m s);
            highs = λ a b l m r f e g.
                let s : reached b ≡ true = shut a b l m r e in
                sym (high_eq (t.staged b m s)) ∙ u.highs a b l m r f e g ∙ high_eq (t'.staged b m s);
          }

  -- a condition that reads no changed end keeps its pair
  pub staged_unmoved : {k : ℕ} {I H J : Assign} (G : Assign) → Staged n top T free reached k I → Roofed n top T free reached (suc k) H
      → Staged n top T free reached (suc k) J
      → (c : ℕ) → c < n → reached c ≡ true → ((b : ℕ) → b < n → names c b ≡ true → mix free I H b ≡ mix free J G b)
      → J c ≡ T (mix free J G) c
  staged_unmoved {k} {I} {H} {J} G t h t' c l r e = t'.staged c l r ∙ sym (staged_mix t h c l r) ∙ S.local (mix free I H) (mix free J G) c l e

  -- the count of rounds
  pub staged_count : {k : ℕ} {I J : Assign} → Staged n top T free reached k I → Staged n top T free reached (suc k) J → Alike n reached I J
      → ((j : ℕ) → j < k → ¬ Alike n reached (stage n top T free j) (stage n top T free (suc j)))
      → IsCount n top (close n top T free) reached k
  unfolding stage
  staged_count {k} t t' e moving = record { still = λ c l r. sym (t.staged c l r) ∙ e c l r ∙ t'.staged c l r; moving = moving }

  pub staged_moving : {k : ℕ} {I J : Assign} → Staged n top T free reached k I → Staged n top T free reached (suc k) J
      → ¬ Alike n reached I J → ¬ Alike n reached (stage n top T free k) (stage n top T free (suc k))
  staged_moving t t' d e = d (λ c l r. t.staged c l r ∙ e c l r ∙ sym (t'.staged c l r))
