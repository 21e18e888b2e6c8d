use Rattle.std.proofs.Common.{◌≡◌, length, Result, arith, rules, tests}
use Rattle.std.proofs.lemmas.Result.{err_from_is_err_and}
use Rattle.format.specs.Packed.{Points}
use Rattle.format.proofs.Mapped.{ok_told, err_told}
use Rattle.format.specs.Reader.{at_entry, points_of}
use Rattle.slots.specs.declared.entry.Parts.{Parts}
use Rattle.slots.specs.declared.fault.EntryFault.{EntryFault}
use Rattle.slots.specs.declared.fault.SlotFault.TheVariants.{InEntry}
use Rattle.slots.specs.Entries.{Parted}
use Rattle.slots.specs.Faults.{entry_declined}
use Rattle.slots.proofs.WalkSteps.{no_header, no_data, there, wrong_entry}
use Rattle.slots.proofs.bytes.SlotBytes.entry_at.Goals as goal

pub returns-in_default : goal.returns-in_default
returns-in_default c k g t n hs left past num l e =
    no_header k g c.args.self.now.p t c.args.i c.args.self.now.table.now c.args.header c.args.body c.args.self.now.axes n hs left past l e c.in_default.ensures _

pub returns-then-have-size : goal.returns-then-have-size
returns-then-have-size c k g t n hs left past num l e =
    no_data k g c.args.self.now.p t c.args.i c.args.self.now.table.now c.args.header c.args.body c.args.self.now.axes n hs left past l e c.in-Some.head c.in-Some.ensures (omega arith)

pub returns-in_err-parts : goal.returns-in_err-parts
returns-in_err-parts c =
    let d : Result Parts EntryFault → Type 0 = λ r. (t : Points) → length (points_of c.args.self.now.p t) ≡ c.args.shared → Parted c.upto.result.now c.args.body c.args.self.now.p t c.is_private.result r in
    let p = err_from_is_err_and c.from_residual.result c.from_residual.ensures.1 in
    let q = err_told d _ c.entry_parts.result c.map_err.result c.map_err.ensures.cases _ c.in_err-parts.was c.entry_parts.ensures in
    let e : c.in_err-parts.field-0.0 ≡ InEntry c.args.i q.0 = search (rules, tests) in
    rw (p.1, p.2, e) (λ k g t n hs left past num l h.
    wrong_entry k g c.args.self.now.p t c.args.i c.args.self.now.table.now c.args.header c.args.body c.args.self.now.axes n hs left past l h c.in-Some.head c.saturating_sub-have.result
    c.upto.result.now c.is_private.result (entry_declined (at_entry g c.args.i) q.0) c.saturating_sub-have.ensures c.if-have-size.false c.in-Some.ensures c.upto.ensures c.is_private.ensures
    (λ x w. q.1 t num (at_entry g c.args.i) k x w))

pub returns : goal.returns
returns c =
    let d : Result Parts EntryFault → Type 0 = λ r. (t : Points) → length (points_of c.args.self.now.p t) ≡ c.args.shared → Parted c.upto.result.now c.args.body c.args.self.now.p t c.is_private.result r in
    there c.args.self.now.table.now c.args.header c.args.body c.args.self.now.axes c.args.self.now.p c.args.shared c.in-Some.head c.in_ok-parts.parts c.saturating_sub-have.result
    c.upto.result.now c.is_private.result c.saturating_sub-have.ensures c.if-have-size.false c.in-Some.ensures c.upto.ensures c.is_private.ensures
    (ok_told d _ c.entry_parts.result c.map_err.result c.map_err.ensures.cases _ c.in_ok-parts.was c.entry_parts.ensures)
