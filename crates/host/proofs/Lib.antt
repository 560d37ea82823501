mod StatusMeant
