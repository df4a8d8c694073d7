use Rattle.std.proofs.Common.{◌≡◌, ◌+◌, ◌-◌, ◌*◌, ◌++◌, ◌/◌, length, ℕ, List, take, drop, min, ap, sym, ◌∙◌, arith, length-append, length-take, length-drop, refl, append_assoc}
use Rattle.std.proofs.lemmas.List.{append-nil}
use Rattle.wal_base.specs.Segment.{bytes_of}
use Rattle.wal_pages.specs.Header.{header_size}
use Rattle.wal_records.specs.Further.{room}
use Rattle.wal_records.specs.Writer.{pages_from, page_header, laid}
use Rattle.wal_records.specs.Zeros.{ZeroEnded}
use Rattle.wal_records.proofs.ZerosLemmas.{append_on, kept_room, both_lengths, view_is}
use Rattle.wal_records.proofs.WriterLemmas.{pages_none, pages_step, pages_begin, parts_length, length-page_header, header_and_room}
use Rattle.wal_records.proofs.new_pages.add_record.Goals as goal

pub add-requires : goal.add-requires
add-requires c =
    let bytes : List ℕ = c.args.bytes.now in
    let rest : List ℕ = pages_from c.args.origin bytes ((c.args.place / 8192 + 1) * 8192) (length bytes - c.min-first.result) in
    let all = ap length (pages_begin c.args.origin c.args.place bytes c.min-first.result (omega (arith, c.min-first.ensures))) in
    record { room = omega (arith, all, length-append (take c.min-first.result bytes) rest, c.requires.room) }

pub loop-from-init : goal.loop-from-init
loop-from-init c =
    let bytes : List ℕ = c.args.bytes.now in
    let first : List ℕ = take c.min-first.result bytes in
    let rest : List ℕ = pages_from c.args.origin bytes ((c.args.place / 8192 + 1) * 8192) (length bytes - c.min-first.result) in
    let all : first ++ rest ≡ laid c.args.origin c.args.place bytes = pages_begin c.args.origin c.args.place bytes c.min-first.result (omega (arith, c.min-first.ensures)) in
    let size : length first + length rest ≡ length (laid c.args.origin c.args.place bytes) = sym (length-append first rest) ∙ ap length all in
    record {
      on = append_on c.args.into.now.bytes c.add.new.self.bytes first rest (laid c.args.origin c.args.place bytes) (ap (λ (z : ZeroEnded). z.bytes) c.add.ensures) all;
      room = kept_room c.args.into.now c.add.new.self first c.add.ensures (omega (arith, size, c.requires.room));
      within = omega (arith, c.min-first.ensures);
      reached = λ h. omega (arith, size, c.min-first.ensures, length-take c.min-first.result bytes);
    }

pub add_header-requires : goal.add_header-requires
add_header-requires c =
    let bytes : List ℕ = c.args.bytes.now in
    let o = c.args.origin in
    let number : ℕ = c.loop-from.number in
    let from : ℕ = c.loop-from.from in
    let taken : ℕ = min (length bytes - from) (room (bytes_of o.size) (number * 8192)) in
    let piece : List ℕ = take (from + taken - from) (drop from bytes) in
    let next : List ℕ = pages_from o bytes ((number + 1) * 8192) (length bytes - (from + taken)) in
    let rest = ap length (pages_step o bytes number from taken c.loop-from-test.true refl) ∙ parts_length (page_header o (number * 8192) (length bytes - from)) piece next _ (length-page_header o (number * 8192) (length bytes - from)) in
    let size = both_lengths c.loop-from.into.bytes (pages_from o bytes (number * 8192) (length bytes - from)) c.args.into.now.bytes (laid o c.args.place bytes) c.loop-from.invariant.on in
    record { room = omega (arith, rest, size, c.requires.room, c.loop-from.invariant.room) }

pub add-requires-in-loop-from : goal.add-requires-in-loop-from
add-requires-in-loop-from c =
    let bytes : List ℕ = c.args.bytes.now in
    let o = c.args.origin in
    let number : ℕ = c.loop-from.number in
    let from : ℕ = c.loop-from.from in
    let taken : ℕ = c.min.result in
    let piece : List ℕ = take (from + taken - from) (drop from bytes) in
    let next : List ℕ = pages_from o bytes ((number + 1) * 8192) (length bytes - (from + taken)) in
    let rest = ap length (pages_step o bytes number from taken c.loop-from-test.true (omega (arith, c.min.ensures, c.room_of.ensures.value))) ∙ parts_length (page_header o (number * 8192) (length bytes - from)) piece next _ (length-page_header o (number * 8192) (length bytes - from)) in
    let size = both_lengths c.loop-from.into.bytes (pages_from o bytes (number * 8192) (length bytes - from)) c.args.into.now.bytes (laid o c.args.place bytes) c.loop-from.invariant.on in
    let zeros : c.add_header.new.into.zeros ≡ c.loop-from.into.zeros - header_size (bytes_of o.size) (number * 8192) =
    ap (λ (z : ZeroEnded). z.zeros) c.add_header.ensures ∙ ap (λ (n : ℕ). c.loop-from.into.zeros - n) (length-page_header o (number * 8192) (length bytes - from)) in
    record { room = omega (arith, rest, size, zeros, c.requires.room, c.loop-from.invariant.room) }

pub loop-from-preserved : goal.loop-from-preserved
loop-from-preserved c =
    let bytes : List ℕ = c.args.bytes.now in
    let o = c.args.origin in
    let number : ℕ = c.loop-from.number in
    let from : ℕ = c.loop-from.from in
    let taken : ℕ = c.min.result in
    let header : List ℕ = page_header o (number * 8192) (length bytes - from) in
    let piece : List ℕ = take (from + taken - from) (drop from bytes) in
    let next : List ℕ = pages_from o bytes ((number + 1) * 8192) (length bytes - (from + taken)) in
    let took : taken ≡ min (length bytes - from) (room (bytes_of o.size) (number * 8192)) = omega (arith, c.min.ensures, c.room_of.ensures.value) in
    let step = pages_step o bytes number from taken c.loop-from-test.true took in
    let rest = ap length step ∙ parts_length header piece next _ (length-page_header o (number * 8192) (length bytes - from)) in
    let size = both_lengths c.loop-from.into.bytes (pages_from o bytes (number * 8192) (length bytes - from)) c.args.into.now.bytes (laid o c.args.place bytes) c.loop-from.invariant.on in
    let zeros : c.add_header.new.into.zeros ≡ c.loop-from.into.zeros - header_size (bytes_of o.size) (number * 8192) =
    ap (λ (z : ZeroEnded). z.zeros) c.add_header.ensures ∙ ap (λ (n : ℕ). c.loop-from.into.zeros - n) (length-page_header o (number * 8192) (length bytes - from)) in
    let head_size = length-page_header o (number * 8192) (length bytes - from) in
    let piece_size : length piece ≡ taken = length-take (from + taken - from) (drop from bytes) ∙ omega (arith, took, length-drop from bytes) in
    record {
      on =
          append_on c.add_header.new.into.bytes c.add-in-loop-from.new.self.bytes piece next (piece ++ next) (ap (λ (z : ZeroEnded). z.bytes) c.add-in-loop-from.ensures) refl
          ∙ append_on c.loop-from.into.bytes c.add_header.new.into.bytes header (piece ++ next) _ (ap (λ (z : ZeroEnded). z.bytes) c.add_header.ensures) (sym (append_assoc header piece next) ∙ sym step)
          ∙ c.loop-from.invariant.on;
      room =
          kept_room c.add_header.new.into c.add-in-loop-from.new.self piece c.add-in-loop-from.ensures (omega (arith, rest, size, zeros, c.requires.room, c.loop-from.invariant.room))
          ∙ kept_room c.loop-from.into c.add_header.new.into header c.add_header.ensures (omega (arith, head_size, rest, size, c.requires.room, c.loop-from.invariant.room))
          ∙ c.loop-from.invariant.room;
      within = omega (arith, took);
      reached = λ h. omega (arith, took, rest, piece_size, header_and_room (bytes_of o.size) (number * 8192), c.loop-from.invariant.reached c.loop-from-test.true);
    }

pub returns : goal.returns
returns c =
    let bytes : List ℕ = c.args.bytes.now in
    let o = c.args.origin in
    let none = pages_none o bytes (c.loop-from.number * 8192) (length bytes - c.loop-from.from) (omega arith) in
    let all : c.loop-from.into.bytes ≡ c.args.into.now.bytes ++ laid o c.args.place bytes =
    sym (append-nil c.loop-from.into.bytes) ∙ ap (λ (t : List ℕ). c.loop-from.into.bytes ++ t) (sym none) ∙ c.loop-from.invariant.on in
    view_is c.loop-from.into.bytes _ c.loop-from.into.zeros (c.args.into.now.zeros - length (laid o c.args.place bytes)) all
    (omega (arith, ap length all ∙ length-append c.args.into.now.bytes (laid o c.args.place bytes), c.loop-from.invariant.room))
