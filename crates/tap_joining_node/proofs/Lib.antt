mod JoiningTakes
mod HelloNamed
