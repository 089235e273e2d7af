mod NoticeNamed
mod LeavingTakes
mod Ends
