-- `salvage::restore` meets its contract.
use Prim.Native.Nat.{◌≤◌}
use native.Mathlib.Omega.{arith}
use lib.ListN.{length}
use Rattle.salvage.specs.Restoring.{listed, belonging}
use Rattle.salvage.proofs.Answers.{restores_long, restores_stray, restores_room, restores_done}
use Rattle.salvage.proofs.Back.{listed_length, listed_small, belonging_few, measured}
use Rattle.salvage.proofs.restore.Goals as goal

pub returns-then-copy-gt131072 : goal.returns-then-copy-gt131072
returns-then-copy-gt131072 c = restores_long _ _ _ c.if-copy-gt131072.true

pub returns-then-fit-count : goal.returns-then-fit-count
returns-then-fit-count c =
    let s = c.args in
    let f = belonging_few 0 s.copy.now (listed s.places.now s.bytes.now) (listed_small s.places.now s.bytes.now (λ i. omega (arith, c.type_inv.bytes i))) in
    restores_stray _ _ _ c.if-copy-gt131072.false _ c.count_belonging-fit.ensures (omega (arith, c.count_belonging-fit.ensures, f.1)) (omega (arith, c.if-fit-count.true, c.min-count.ensures, listed_length s.places.now s.bytes.now))

pub overflow_sub-needed : goal.overflow_sub-needed
overflow_sub-needed c =
    let s = c.args in
    let m = measured s.copy.now s.places.now s.bytes.now _ _ (λ i. omega (arith, c.type_inv.bytes i)) c.min-count.ensures c.count_belonging-fit.ensures c.if-fit-count.false in
    let l = listed_length s.places.now s.bytes.now in
    let k : length (listed s.places.now s.bytes.now) ≤ belonging 0 s.copy.now (listed s.places.now s.bytes.now) = omega (arith, m.all) in
    omega (arith, m.within)

pub returns-then-notes-needed : goal.returns-then-notes-needed
returns-then-notes-needed c =
    let s = c.args in
    let m = measured s.copy.now s.places.now s.bytes.now _ _ (λ i. omega (arith, c.type_inv.bytes i)) c.min-count.ensures c.count_belonging-fit.ensures c.if-fit-count.false in
    let l = listed_length s.places.now s.bytes.now in
    let k : length (listed s.places.now s.bytes.now) ≤ belonging 0 s.copy.now (listed s.places.now s.bytes.now) = omega (arith, m.all) in
    restores_room _ _ _ c.if-copy-gt131072.false _ k m.needed (omega arith) c.if-notes-needed.true

pub put_back-requires : goal.put_back-requires
put_back-requires c =
    let s = c.args in
    let m = measured s.copy.now s.places.now s.bytes.now _ _ (λ i. omega (arith, c.type_inv.bytes i)) c.min-count.ensures c.count_belonging-fit.ensures c.if-fit-count.false in
    let l = listed_length s.places.now s.bytes.now in
    let k : length (listed s.places.now s.bytes.now) ≤ belonging 0 s.copy.now (listed s.places.now s.bytes.now) = omega (arith, m.all) in
    record { limit = c.if-copy-gt131072.false; all = m.all; room = omega (arith, m.needed, c.if-notes-needed.false) }

pub returns : goal.returns
returns c =
    let s = c.args in
    let m = measured s.copy.now s.places.now s.bytes.now _ _ (λ i. omega (arith, c.type_inv.bytes i)) c.min-count.ensures c.count_belonging-fit.ensures c.if-fit-count.false in
    let l = listed_length s.places.now s.bytes.now in
    let k : length (listed s.places.now s.bytes.now) ≤ belonging 0 s.copy.now (listed s.places.now s.bytes.now) = omega (arith, m.all) in
    restores_done _ _ _ c.if-copy-gt131072.false _ k m.needed (omega arith) c.if-notes-needed.false c.put_back.ensures
