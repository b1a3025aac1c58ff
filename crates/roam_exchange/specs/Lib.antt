-- The rules of the proxy of one realm, in the order in which it is read.
pub mod Turn
pub mod Shares
pub mod OnRequest
pub mod OnReply
pub mod OnTick
pub mod OneRealm
pub mod Happenings
pub mod RestLaws
-- The words of the contracts of public calls beside that.
pub mod Shown
pub mod HappeningsShown
pub mod Turned
pub mod Rooms
pub mod Memory
pub mod Dues
pub mod DueActions
pub mod Outcomes
