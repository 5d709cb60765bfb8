-- Where working room is lent: the longest paragraph of three words needs 45 numbers, broken quick 21, and lines alone need none. The order: 3, then
-- 12, then 5.
use Rattle.std.specs.Prelude.{◌≡◌, refl, ◌∷◌}
use Rattle.lists.specs.Trials.Bytes.{bytes}
use Rattle.formatter.specs.Answers.{done, refused, room}
use Rattle.formatter.specs.declared.Refusal.TheVariants.{Text, Work}
use Rattle.formatter.specs.Format.{measuring, writing}
use Rattle.walk.specs.Work.{most_work, work_for}
use Rattle.formatter.specs.Work.{lending}
use Rattle.rudignals.specs.Trials.Computing.{everything}
use Rattle.rudignals.specs.Trials.MarkedTexts.{none, flags}

pub a_number_less : measuring (lending 44) none (bytes "a b\n\nc d e\n") ≡ refused (Work 45)
unfolding everything most_work work_for
a_number_less = refl

pub as_many : measuring (lending 45) none (bytes "a b\n\nc d e\n") ≡ done (bytes "a b\n\nc d e\n")
unfolding everything most_work work_for
as_many = refl

pub quick_less : measuring (lending 20) (flags 0 32) (bytes "a b\n\nc d e\n") ≡ refused (Work 21)
unfolding everything most_work work_for
quick_less = refl

pub blank_lines : measuring (lending 0) none (bytes "\n \n") ≡ done (bytes "\n\n")
unfolding everything most_work work_for
blank_lines = refl

pub damage_first : writing (lending 0) none (0xB0 ∷ bytes " a b\n") 9 ≡ refused (Text 0)
unfolding everything most_work work_for
damage_first = refl

pub work_before_room : writing (lending 0) none (bytes "a b\n") 3 ≡ refused (Work 30)
unfolding everything most_work work_for
work_before_room = refl

pub room_behind : writing (lending 30) none (bytes "a b\n") 3 ≡ room 4
unfolding everything most_work work_for
room_behind = refl
