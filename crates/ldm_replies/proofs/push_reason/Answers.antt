use Rattle.ldm_replies.proofs.push_reason.Goals as goal

pub returns-in-BadLine : goal.returns-in-BadLine
returns-in-BadLine c = rw c.in-BadLine.is c.push.ensures

pub returns-in-BatchOpen : goal.returns-in-BatchOpen
returns-in-BatchOpen c = rw c.in-BatchOpen.is c.push-in-BatchOpen.ensures

pub returns-in-NoBatch : goal.returns-in-NoBatch
returns-in-NoBatch c = rw c.in-NoBatch.is c.push-in-NoBatch.ensures

pub returns-in-EmptyBatch : goal.returns-in-EmptyBatch
returns-in-EmptyBatch c = rw c.in-EmptyBatch.is c.push-in-EmptyBatch.ensures

pub returns-in-NameTaken : goal.returns-in-NameTaken
returns-in-NameTaken c = rw c.in-NameTaken.is c.push-in-NameTaken.ensures

pub returns-in-NoVolume : goal.returns-in-NoVolume
returns-in-NoVolume c = rw c.in-NoVolume.is c.push-in-NoVolume.ensures

pub returns-in-NotSpan : goal.returns-in-NotSpan
returns-in-NotSpan c = rw c.in-NotSpan.is c.push-in-NotSpan.ensures

pub returns-in-ExtraSize : goal.returns-in-ExtraSize
returns-in-ExtraSize c = rw c.in-ExtraSize.is c.push-in-ExtraSize.ensures

pub returns-in-PieceCount : goal.returns-in-PieceCount
returns-in-PieceCount c = rw c.in-PieceCount.is c.push_piece_count.ensures

pub returns-in-NoDisk : goal.returns-in-NoDisk
returns-in-NoDisk c = rw c.in-NoDisk.is c.push_number.ensures

pub returns-in-SameDisk : goal.returns-in-SameDisk
returns-in-SameDisk c = rw c.in-SameDisk.is c.push-in-SameDisk.ensures

pub returns-in-BadSize : goal.returns-in-BadSize
returns-in-BadSize c = rw c.in-BadSize.is c.push-in-BadSize.ensures

pub returns-in-NoSpace : goal.returns-in-NoSpace
returns-in-NoSpace c = rw c.in-NoSpace.is c.push_number-in-NoSpace.ensures

pub returns-in-IdsSpent : goal.returns-in-IdsSpent
returns-in-IdsSpent c = rw c.in-IdsSpent.is c.push-in-IdsSpent.ensures

pub returns-in-TooLong : goal.returns-in-TooLong
returns-in-TooLong c = rw c.in-TooLong.is c.push_too_long.ensures

pub returns-in-NoRoom : goal.returns-in-NoRoom
returns-in-NoRoom c = rw c.in-NoRoom.is c.push_no_room.ensures

pub returns-in-SequenceSpent : goal.returns-in-SequenceSpent
returns-in-SequenceSpent c = rw c.in-SequenceSpent.is c.push-in-SequenceSpent.ensures
