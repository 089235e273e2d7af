use Rattle.std.proofs.Common.{◌≡◌, None, arith, refl}
use Rattle.std.proofs.lemmas.Result.{IfOk-weaker}
use Rattle.tap_rule.specs.Event.News.{Nothing as NothingNews}
use Rattle.tap_rule.specs.FrameRules.{frame_at_joining}
use Rattle.tap_rule.specs.Links.{takes_forget, takes_link_joining}
use Rattle.tap_node_common.specs.declared.news.News.TheVariants.{Nothing}
use Rattle.tap_node_common.proofs.ReactionSteps.{silent_step}
use Rattle.tap_joining_node.specs.State.{joining_state}
use Rattle.tap_joining_node.proofs.JoiningTakes.{answer_follows, cast_follows, forget_follows, hello_follows, link_follows, release_follows, tell_follows, tells_other}
use Rattle.tap_joining_node.proofs.joining_node.JoiningNode.take.Goals as goal

pub on_tell-requires-clause-other : goal.on_tell-requires-clause-other
on_tell-requires-clause-other c =
    let told = c.in-Tell in
    tells_other (joining_state c.args.self.now) c.args.frame.now c.requires.may
    (record { joiner = told.joiner; prefix = told.prefix; level = told.level; session = told.session; depth = told.depth })
    told.watch told.is

pub returns-in-Tell : goal.returns-in-Tell
returns-in-Tell c =
    let told = c.in-Tell in
    IfOk-weaker c.on_tell.result _ _
    (λ _ steps.
    tell_follows (joining_state c.args.self.now) refl (c.requires.may.sound.alone refl) c.args.frame.now (joining_state c.on_tell.new.self)
    c.args.sent.now c.on_tell.new.sent Nothing
    (record { joiner = told.joiner; prefix = told.prefix; level = told.level; session = told.session; depth = told.depth })
    told.watch told.is steps)
    c.on_tell.ensures

pub returns-in-Hello : goal.returns-in-Hello
returns-in-Hello c =
    IfOk-weaker c.on_hello.result _ _
    (λ _ steps.
    hello_follows (joining_state c.args.self.now) refl (c.requires.may.sound.alone refl) c.args.frame.now
    (joining_state c.on_hello.new.self) c.args.sent.now c.on_hello.new.sent Nothing
    c.in-Hello.session c.in-Hello.core c.in-Hello.links c.in-Hello.is steps)
    c.on_hello.ensures

pub returns-in-Release : goal.returns-in-Release
returns-in-Release c =
    IfOk-weaker c.on_release.result _ _
    (λ _ steps.
    release_follows (joining_state c.args.self.now) refl (c.requires.may.sound.alone refl) c.args.frame.now
    (joining_state c.on_release.new.self) c.args.sent.now c.on_release.new.sent Nothing c.in-Release.is steps)
    c.on_release.ensures

pub returns-in_ok-on_link-in-Link : goal.returns-in_ok-on_link-in-Link
returns-in_ok-on_link-in-Link c =
    let node = joining_state c.args.self.now in
    let from = c.args.frame.now.from in
    link_follows node refl (c.requires.may.sound.alone refl) c.args.frame.now (joining_state c.on_link.new.self)
    c.args.sent.now c.args.sent.now Nothing c.in-Link.version c.in-Link.on c.in-Link.is
    (rw c.in_ok-on_link-in-Link.ensures (silent_step node (takes_link_joining node from c.in-Link.version c.in-Link.on).state NothingNews c.args.sent.now))

pub returns-in-Forget : goal.returns-in-Forget
returns-in-Forget c =
    let node = joining_state c.args.self.now in
    forget_follows node refl (c.requires.may.sound.alone refl) c.args.frame.now (joining_state c.on_forget.new.self)
    c.args.sent.now c.args.sent.now Nothing c.in-Forget.is
    (rw c.on_forget.ensures (silent_step node (takes_forget node c.args.frame.now.from).state NothingNews c.args.sent.now))

pub returns-in-Cast : goal.returns-in-Cast
returns-in-Cast c =
    IfOk-weaker c.on_cast.result _ _
    (λ _ steps.
    cast_follows (joining_state c.args.self.now) refl (c.requires.may.sound.alone refl) c.args.frame.now
    (joining_state c.on_cast.new.self) c.args.sent.now c.on_cast.new.sent Nothing _ _ c.in-Cast.session _ _ c.in-Cast.is steps)
    c.on_cast.ensures

pub returns-in-Heard : goal.returns-in-Heard
returns-in-Heard c =
    IfOk-weaker c.on_heard_or_ack.result _ _
    (λ _ steps.
    answer_follows (joining_state c.args.self.now) refl (c.requires.may.sound.alone refl) c.args.frame.now
    (joining_state c.on_heard_or_ack.new.self) c.args.sent.now c.on_heard_or_ack.new.sent Nothing c.in-Heard.session c.in-Heard.is steps)
    c.on_heard_or_ack.ensures

pub returns-in-Seek : goal.returns-in-Seek
unfolding frame_at_joining
returns-in-Seek c =
    let none : frame_at_joining (joining_state c.args.self.now) c.args.frame.now.from c.args.frame.now.body ≡ None = grind arith in
    rw none (record { state = refl; frames = refl; noted = refl })
