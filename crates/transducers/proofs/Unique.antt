-- Uniqueness: two canonical transducers that do the same are equal at every state and tag.
use Prim.Native.Nat.{ℕ, zero, suc, ◌+◌, ◌*◌, ◌≤◌, ◌<◌}
use native.Mathlib.Omega.{arith}
use native.Mathlib.Decide.{ℕ_discrete, dec_lt}
use mathlib.Core.Path.{◌≡◌, sym, ◌∙◌}
use mathlib.Core.List.{List, [], ◌∷◌}
use Rattle.words.specs.Word.{Below}
use Rattle.transducers.specs.Transducer.{Shape, puts}
use Rattle.transducers.specs.Run.{walk}
use Rattle.transducers.specs.Canonical.{Same, Canonical, Agree}
use Rattle.transducers.proofs.Run.{earlier_place}
use Rattle.transducers.proofs.Lower.{same_step}

-- state q of both still puts out the same
pub record Paired (k : ℕ) (S T : Shape) (q : ℕ) : Type 0 where
  pub left : q < S.count
  pub right : q < T.count
  pub alike : Same k (puts S q) (puts T q)

turned : {k : ℕ} {S T : Shape} {q : ℕ} → Paired k S T q → Paired k T S q
turned p = record { left = p.right; right = p.left; alike = λ x hx. sym (p.alike x hx) }

step-alike : (k : ℕ) (S T : Shape) → Canonical k S → Canonical k T → (p q a : ℕ) → p < S.count → q < T.count → a < k → Same k (puts S p) (puts T q)
    → (S.output p a ≡ T.output q a) × Same k (puts S (S.next p a)) (puts T (T.next q a))
step-alike k S T cS cT p q a hp hq ha =
    same_step k S T p q a ha (cS.minimal.early (S.next p a) (cS.minimal.next_below p a hp ha))
    (cT.minimal.early (T.next q a) (cT.minimal.next_below q a hq ha))

-- a step leads from a lower state to each but 0
pub record Entered (k : ℕ) (S : Shape) (q : ℕ) : Type 0 where
  pub state : ℕ
  pub tag : ℕ
  pub lower : state < q
  pub tag_below : tag < k
  pub leads : S.next state tag ≡ q

entered : (k : ℕ) (S : Shape) → Canonical k S → (q : ℕ) → q < S.count → 0 < q → Entered k S q
entered k S c q hq pos = along 0 pos (c.minimal.reached q hq).word (c.minimal.reached q hq).below (c.minimal.reached q hq).leads
  where
    by_step : (s a : ℕ) → s < q → a < k → Dec (S.next s a < q) → Dec (S.next s a ≡ q) → (S.next s a < q → Entered k S q) → Entered k S q
    by_step s a hs ha (yes lt) d on = on lt
    by_step s a hs ha (no nlt) (yes e) on = record { state = s; tag = a; lower = hs; tag_below = ha; leads = e }
    by_step s a hs ha (no nlt) (no ne) on =
        let e = c.numbered s a q (omega arith) ha pos (omega arith) in
        let place = earlier_place k S s a q e in
        record { state = e.state; tag = e.tag; lower = omega arith; tag_below = e.tag_below; leads = e.leads }

    along : (s : ℕ) → s < q → (w : List ℕ) → Below k w → walk S s w ≡ q → Entered k S q
    along s hs [] hw e = absurd (omega arith)
    along s hs (a ∷ w) hw e = by_step s a hs hw.0 (dec_lt (S.next s a) q) (ℕ_discrete (S.next s a) q) (λ lt. along (S.next s a) lt w hw.1 e)

-- where all lower states are paired, a state to which a step of one leads is paired
descend : (fuel k : ℕ) (S T : Shape) → Canonical k S → Canonical k T → (q : ℕ) → ((p : ℕ) → p < q → Paired k S T p)
    → (p a : ℕ) → p < q → a < k → p * k + a < fuel → S.next p a ≡ q → Paired k S T q
descend zero k S T cS cT q lower p a hp ha hf e = absurd (omega arith)
descend (suc n) k S T cS cT q lower p a hp ha hf e =
    go (dec_lt (T.next p a) q) (ℕ_discrete (T.next p a) q) (λ s b hs hb place on. descend n k T S cT cS q (λ r hr. turned (lower r hr)) s b hs hb place on)
  where
    at_p : Paired k S T p
    at_p = lower p hp

    q_below : q < S.count
    q_below = rw e at (cS.minimal.next_below p a at_p.left ha)

    after : Same k (puts S q) (puts T (T.next p a))
    after = rw e at (step-alike k S T cS cT p p a at_p.left at_p.right ha at_p.alike).1

    t_below : T.next p a < T.count
    t_below = cT.minimal.next_below p a at_p.right ha

    go : Dec (T.next p a < q) → Dec (T.next p a ≡ q) → ((s b : ℕ) → s < q → b < k → s * k + b < n → T.next s b ≡ q → Paired k T S q)
        → Paired k S T q
    go (yes lt) d on =
        let l = lower (T.next p a) lt in
        let z = cS.minimal.apart q (T.next p a) q_below l.left (λ x hx. after x hx ∙ sym (l.alike x hx)) in
        absurd (omega arith)
    go (no nlt) (yes d) on = record { left = q_below; right = rw d at t_below; alike = rw d at after }
    go (no nlt) (no ne) on =
        let f = cT.numbered p a q at_p.right ha (omega arith) (omega arith) in
        let place = earlier_place k T p a q f in
        turned (on f.state f.tag (omega arith) f.tag_below (omega arith) f.leads)

module _ (k : ℕ) (S T : Shape) (cS : Canonical k S) (cT : Canonical k T) (does : Same k (puts S 0) (puts T 0)) where
  -- every state of S is paired with the state of T that has its number
  pub paired : (n q : ℕ) → q < n → q < S.count → Paired k S T q
  paired zero q hn hq = absurd (omega arith)
  paired (suc n) zero hn hq = record { left = hq; right = cT.some; alike = does }
  paired (suc n) (suc q) hn hq =
      let f = entered k S cS (suc q) hq (omega arith) in
      descend (suc (f.state * k + f.tag)) k S T cS cT (suc q) (λ p hp. paired n p (omega arith) (omega arith))
      f.state f.tag f.lower f.tag_below (omega arith) f.leads

  count_le : S.count ≤ T.count
  count_le = go (dec_lt T.count S.count)
    where
      go : Dec (T.count < S.count) → S.count ≤ T.count
      go (yes h) = omega (arith, (paired (suc T.count) T.count (omega arith) h).right)
      go (no h) = omega arith

pub unique : (k : ℕ) (S T : Shape) → Canonical k S → Canonical k T → Same k (puts S 0) (puts T 0) → Agree k S T
unique k S T cS cT does =
    record {
      counts = omega (arith, count_le k S T cS cT does, count_le k T S cT cS (λ x hx. sym (does x hx)));
      nexts = nexts;
      outputs = λ q a hq ha. let p = pair q hq in (step-alike k S T cS cT q q a p.left p.right ha p.alike).0;
      finals = λ q hq. (pair q hq).alike [] tt;
    }
  where
    pair : (q : ℕ) → q < S.count → Paired k S T q
    pair q hq = paired k S T cS cT does (suc q) q (omega arith) hq

    nexts : (q a : ℕ) → q < S.count → a < k → S.next q a ≡ T.next q a
    nexts q a hq ha =
        let p = pair q hq in
        let r = pair (S.next q a) (cS.minimal.next_below q a hq ha) in
        cT.minimal.apart (S.next q a) (T.next q a) r.right (cT.minimal.next_below q a p.right ha)
        (λ x hx. sym (r.alike x hx) ∙ (step-alike k S T cS cT q q a p.left p.right ha p.alike).1 x hx)
