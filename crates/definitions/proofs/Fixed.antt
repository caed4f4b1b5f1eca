-- Claims that say where a value is shown, which, and where each number comes leave nothing free. The calls of codec order are shown to be ours:
-- `OrdersBack` says where they show something, `OrdersByTables` each bit of the core, and the row is the one that ours takes to that core.
-- Assumes nothing.
use mathlib.Core.Path.{◌≡◌, refl, sym, ap, ◌∙◌}
use mathlib.Core.Bool.{true, false}
use mathlib.Core.List.{List}
use mathlib.Core.Logic.{◌↔◌}
use Prim.Native.Nat.{ℕ, suc, ◌≤◌}
use native.Mathlib.Omega.{arith}
use lib.ListN.{take}
use lib.Seq.{ext_get_or}
use Rattle.std.proofs.lemmas.List.{get_or-take}
use Rattle.bits.specs.Bits.{bits, pack, Octets}
use Rattle.definitions.specs.Outcome.{Outcome, refused, ok}
use Rattle.definitions.specs.Frames.{Format, core_bits, core_octets}
use Rattle.definitions.specs.Order.{to_core_call, to_row_call}
use Rattle.definitions.specs.Claims.{Builder, BuildsFrames, OrderCall, OrdersByTables, OrdersBack}
use Rattle.definitions.specs.Refusals.{refusal_order, FirstOf, FrameFault, CallFault, BuildFault, RefusesBuilds, ToCoreFault, ToRowFault, RefusesOrders, AnswersFixed}
use Rattle.definitions.proofs.Outcome.{no_refusal, same_value, same-answer}
use Rattle.definitions.proofs.Claims.{packed_core}
use Rattle.definitions.proofs.Order.{to_core-shown, to_row-shown, orders_back, orders_by_tables}
use Rattle.definitions.proofs.OrderRefusals.{refuses-orders}

-- a claim that fixes when each number comes, met by two calls
same-refusal : {A : Type 0} (o p : Outcome A) (fault : ℕ → Type 0) → ((n : ℕ) → (o ≡ refused n) ↔ FirstOf fault refusal_order n)
    → ((n : ℕ) → (p ≡ refused n) ↔ FirstOf fault refusal_order n) → (n : ℕ) → o ≡ refused n → p ≡ refused n
same-refusal o p fault f g n h = (g n).1 ((f n).0 h)

-- what a builder writes it writes of the frame that it is handed
builds-same : (build build' : Builder) → BuildsFrames build → RefusesBuilds build → BuildsFrames build' → RefusesBuilds build'
    → (f : Format) (t q i r : ℕ) (c : List ℕ) (room : ℕ) → Octets c → (w : List ℕ) → build f t q i r c room ≡ ok w
    → (o : Outcome (List ℕ)) → build' f t q i r c room ≡ o → build' f t q i r c room ≡ ok w
builds-same build build' b z b' z' f t q i r c room oc w h (refused n) e =
    no_refusal w n (sym h ∙ (z.exactly f t q i r c room n oc).1 ((z'.exactly f t q i r c room n oc).0 e))
builds-same build build' b z b' z' f t q i r c room oc w h (ok v) e =
    e ∙ ap ok ((b'.sound f t q i r c room v oc e).1 ∙ sym (b.sound f t q i r c room w oc h).1)

same-core : (to_core to_core' : OrderCall) → OrdersByTables to_core → OrdersByTables to_core' → (m : ℕ) (sheet row a b : List ℕ) (room : ℕ)
    → to_core m sheet row room ≡ ok a → to_core' m sheet row room ≡ ok b → a ≡ b
same-core to_core to_core' t t' m sheet row a b room e e' =
    let k = core_bits m in
    let p = t.packed m sheet row a room e in
    let q = t'.packed m sheet row b room e' in
    let c = packed_core k a p.0 p.1 p.2 in
    let d = packed_core k b q.0 q.1 q.2 in
    let same : take k (bits a) ≡ take k (bits b) =
    ext_get_or false _ _ (c.0 ∙ sym d.0) (λ j l.
    let i : suc j ≤ k = omega (arith, l, c.0) in
    get_or-take k (bits a) j false i ∙ t.bit m sheet row a room j e i ∙ sym (t'.bit m sheet row b room j e' i) ∙ sym (get_or-take k (bits b) j false i)) in
    c.1 ∙ ap pack same ∙ sym d.1

-- our call takes a core back to the row of which our other call makes it
taken-back : (m : ℕ) (sheet row core : List ℕ) (room : ℕ) → to_core_call m sheet row (core_octets m) ≡ ok core → core_bits m ≤ room
    → to_row_call m sheet core room ≡ ok row
taken-back m sheet row core room e h =
    let s = to_core-shown m sheet row (core_octets m) core e in
    let r = orders_back.row_back m sheet row (core_octets m) room s.0 s.1 s.2 (omega arith) h in
    ap (λ c. to_row_call m sheet c room) (same_value core r.0 (sym e ∙ r.1)) ∙ r.2

-- the two calls are ours
module _ (to_core to_row : OrderCall) (t : OrdersByTables to_core) (back : OrdersBack to_core to_row) (z : RefusesOrders to_core to_row) where
  to_core-ours : (m : ℕ) (sheet row : List ℕ) (room : ℕ) → to_core_call m sheet row room ≡ to_core m sheet row room
  to_core-ours m sheet row room =
      same-answer (to_core_call m sheet row room) (to_core m sheet row room)
      (λ w e.
      let s = to_core-shown m sheet row room w e in
      let r = back.row_back m sheet row room (core_bits m) s.0 s.1 s.2 s.3 (omega arith) in
      r.1 ∙ ap ok (same-core to_core to_core_call t orders_by_tables m sheet row r.0 w room r.1 e))
      (same-refusal (to_core_call m sheet row room) (to_core m sheet row room) (ToCoreFault m sheet row room) (λ n. refuses-orders.to_core_exactly m sheet row room n)
      (λ n. z.to_core_exactly m sheet row room n))

  to_row-ours : (m : ℕ) (sheet core : List ℕ) (room : ℕ) → Octets core → to_row_call m sheet core room ≡ to_row m sheet core room
  to_row-ours m sheet core room o =
      same-answer (to_row_call m sheet core room) (to_row m sheet core room)
      (λ w e.
      let s = to_row-shown m sheet core room w e in
      let r = back.core_back m sheet core room (core_octets m) s.0 o s.1 s.2 s.3 (omega arith) in
      let there : to_core_call m sheet r.0 (core_octets m) ≡ ok core = to_core-ours m sheet r.0 (core_octets m) ∙ r.2 in
      r.1 ∙ ap ok (same_value r.0 w (sym (taken-back m sheet r.0 core room there s.3) ∙ e)))
      (same-refusal (to_row_call m sheet core room) (to_row m sheet core room) (ToRowFault m sheet core room) (λ n. refuses-orders.to_row_exactly m sheet core room n o)
      (λ n. z.to_row_exactly m sheet core room n o))

pub answers_fixed : AnswersFixed
answers_fixed = record {
  readers = λ read read' a b a' b' f s o.
      same-answer (read f s) (read' f s) (λ y h. (a'.exactly f s y.0 y.1 o).1 ((a.exactly f s y.0 y.1 o).0 h))
      (same-refusal (read f s) (read' f s) (FrameFault false f s) (λ n. b.exactly f s n o) (λ n. b'.exactly f s n o));
  single_readers = λ read read' a b a' b' f s o.
      same-answer (read f s) (read' f s) (λ y h. (a'.exactly f s y.0 y.1 o).1 ((a.exactly f s y.0 y.1 o).0 h))
      (same-refusal (read f s) (read' f s) (FrameFault true f s) (λ n. b.exactly f s n o) (λ n. b'.exactly f s n o));
  calls = λ read read' a b a' b' format s room o.
      same-answer (read format s room) (read' format s room) (λ y h. (a'.exactly format s room y.0 y.1 o).1 ((a.exactly format s room y.0 y.1 o).0 h))
      (same-refusal (read format s room) (read' format s room) (CallFault format s room) (λ n. b.exactly format s room n o) (λ n. b'.exactly format s room n o));
  builders = λ build build' a b a' b' f t q i r c room o.
      same-answer (build f t q i r c room) (build' f t q i r c room)
      (λ w h. builds-same build build' a b a' b' f t q i r c room o w h (build' f t q i r c room) refl)
      (same-refusal (build f t q i r c room) (build' f t q i r c room) (BuildFault f t q i r c room) (λ n. b.exactly f t q i r c room n o)
      (λ n. b'.exactly f t q i r c room n o));
  orders = λ to_core to_row to_core' to_row' t back z t' back' z' mode sheet row core room o. (
    sym (to_core-ours to_core to_row t back z mode sheet row room) ∙ to_core-ours to_core' to_row' t' back' z' mode sheet row room,
    sym (to_row-ours to_core to_row t back z mode sheet core room o) ∙ to_row-ours to_core' to_row' t' back' z' mode sheet core room o,
  );
}
