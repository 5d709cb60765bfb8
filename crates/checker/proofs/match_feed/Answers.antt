-- `checker::match_feed` meets its contract.
use Rattle.std.proofs.Common.{rules, ◌≡◌, ◌<◌, length, get_or}
use Rattle.checker.proofs.Spots.{feed_off, feed_on}
use Rattle.checker.proofs.match_feed.Goals as goal

pub returns-then-eq : goal.returns-then-eq
returns-then-eq c =
    let h : c.args.p.at < length c.args.digest.now = search rules in
    let k : get_or c.args.digest.now c.args.p.at 0 ≡ 10 = search rules in
    feed_on _ _ c.requires h k

pub returns-else-eq : goal.returns-else-eq
returns-else-eq c = feed_off _ _ c.requires (λ h k. search rules)
