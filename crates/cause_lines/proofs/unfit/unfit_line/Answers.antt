use Rattle.cause_lines.proofs.unfit.unfit_line.Goals as goal

pub returns-in-EndNotRecord : goal.returns-in-EndNotRecord
returns-in-EndNotRecord c = rw c.in-EndNotRecord.is c.ends_line.ensures

pub returns-in-UnknownSpecial : goal.returns-in-UnknownSpecial
returns-in-UnknownSpecial c = rw c.in-UnknownSpecial.is c.special_line.ensures

pub returns-in-KindsDiffer : goal.returns-in-KindsDiffer
returns-in-KindsDiffer c = rw c.in-KindsDiffer.is c.path_line-in-KindsDiffer.ensures

pub returns-in-OddSize : goal.returns-in-OddSize
returns-in-OddSize c = rw c.in-OddSize.is c.number_line-in-OddSize.ensures

pub returns-in-BadPlan : goal.returns-in-BadPlan
returns-in-BadPlan c = rw c.in-BadPlan.is c.number_line-in-BadPlan.ensures

pub returns-in-TargetDiffers : goal.returns-in-TargetDiffers
returns-in-TargetDiffers c = rw c.in-TargetDiffers.is c.path_line-in-TargetDiffers.ensures
