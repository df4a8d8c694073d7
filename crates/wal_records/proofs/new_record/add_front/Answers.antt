use Rattle.std.proofs.Common.{◌≡◌, ℕ, ◌+◌, ◌++◌, List, [], ◌∷◌, length, ap, ◌∙◌, refl}
use Rattle.byteorder.specs.Endian.{little_bytes}
use Rattle.wal_records.specs.Writer.{link_to, record_front}
use Rattle.wal_records.proofs.ZerosLemmas.{append_then}
use Rattle.wal_records.proofs.new_record.add_front.Goals as goal

pub returns : goal.returns
unfolding record_front
returns c =
    let old : List ℕ = c.args.into.now.items in
    let total : List ℕ = little_bytes 4 (24 + length c.args.body.now) in
    let xid : List ℕ = little_bytes 4 c.args.xid in
    let prev : List ℕ = little_bytes 8 (link_to c.args.before) in
    let one : c.extend_from_slice.new.self.items ≡ old ++ total = c.in_ok-extend_from_slice.ensures.items ∙ ap (λ t. old ++ t) c.to_le_bytes.ensures in
    let two = append_then old c.extend_from_slice.new.self.items c.extend_from_slice-2.new.self.items total xid c.to_le_bytes-2.result one c.in_ok-extend_from_slice-2.ensures.items c.to_le_bytes-2.ensures in
    let three = append_then old c.extend_from_slice-2.new.self.items c.extend_from_slice-3.new.self.items (total ++ xid) prev c.to_le_bytes-3.result two c.in_ok-extend_from_slice-3.ensures.items
    (c.to_le_bytes-3.ensures ∙ ap (little_bytes 8) c.link_to-prev.ensures) in
    append_then old c.extend_from_slice-3.new.self.items c.extend_from_slice-4.new.self.items ((total ++ xid) ++ prev) (c.args.info ∷ c.args.manager ∷ 0 ∷ 0 ∷ []) _ three c.in_ok-extend_from_slice-4.ensures.items refl
