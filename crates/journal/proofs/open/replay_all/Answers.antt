use Rattle.std.proofs.Common.{ℕ, ◌-◌, ◌≤◌, length, sym, refl, ap, subst}
use Rattle.replica.specs.Views.{state_of}
use Rattle.bookings.specs.Refusals.{number_of}
use Rattle.journal.specs.Views.{plain_record}
use Rattle.journal.proofs.Replaying.{Replaying, replaying_none, replaying_less, replaying_within, replaying_more, replaying_wrong, replaying_refused}
use Rattle.journal.proofs.open.replay_all.Goals as goal

pub loop-record-init : goal.loop-record-init
loop-record-init c = replaying_none (state_of c.args.replica.now) c.args.bytes.now _ c.requires c.new-reader.ensures

pub overflow_sub-whole : goal.overflow_sub-whole
overflow_sub-whole c =
    subst (λ (n : ℕ). n ≤ length c.args.bytes.now) (sym (ap length c.rest.ensures))
    (replaying_within _ _ _ _ _ c.loop-record.invariant (plain_record c.in-Ok.record) c.read.new.reader.rest.now c.in-Ok.ensures.form.0)

pub loop-record-smaller : goal.loop-record-smaller
loop-record-smaller c =
    replaying_less _ _ _ _ _ c.loop-record.invariant (plain_record c.in-Ok.record) c.read.new.reader.rest.now c.in-Ok.ensures.form.0

pub loop-record-preserved : goal.loop-record-preserved
loop-record-preserved c =
    subst
    (λ (n : ℕ). Replaying c.args.replica.now.head.hut c.args.bytes.now c.read.new.reader.rest.now (length c.args.bytes.now - n) (state_of c.replay.new.replica))
    (sym (ap length c.rest.ensures))
    (replaying_more _ _ _ _ _ c.loop-record.invariant (plain_record c.in-Ok.record) c.read.new.reader.rest.now c.in-Ok.ensures.form.0
    (state_of c.replay.new.replica)
    c.in-Ok.ensures.form.1
    c.in-Ok.ensures.value
    c.in-Ok-replay.ensures.0
    c.in-Ok-replay.ensures.1)

pub returns-in_default : goal.returns-in_default
returns-in_default c = replaying_wrong _ _ _ _ _ c.loop-record.invariant c.in_default.field-0 _ c.in_default.ensures.value refl

pub returns-in_default-replay : goal.returns-in_default-replay
returns-in_default-replay c =
    replaying_refused _ _ _ _ _ c.loop-record.invariant (plain_record c.in-Ok.record) c.read.new.reader.rest.now (number_of c.in_default-replay.field-0)
    (state_of c.replay.new.replica)
    c.in-Ok.ensures.value
    c.in_default-replay.ensures.0
    c.in_default-replay.ensures.1
